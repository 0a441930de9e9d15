use Rattle.plain_db.proofs.Taken.{turns-give_run}
use Rattle.plain_db.proofs.laws.turns_give_run.Goals as goal

pub returns : goal.returns
returns c = turns-give_run
