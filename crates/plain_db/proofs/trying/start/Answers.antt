use Rattle.workload.specs.Transaction.{started}
use Rattle.plain_db.proofs.trying.start.Goals as goal

pub returns : goal.returns
unfolding started
returns c = λ db. record { answers = c.new.ensures; ops = c.new-2.ensures; touched = c.new-3.ensures }
