use Rattle.plain_db.proofs.TakingBackLemmas.{number-compared}
use Rattle.plain_db.proofs.tables.compared.Goals as goal

pub returns : goal.returns
returns c = rw c.cmp.ensures (number-compared c.args.a.now c.args.b.now)
