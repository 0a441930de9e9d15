use Rattle.plain_db.proofs.Taken.{complete-exact}
use Rattle.plain_db.proofs.laws.complete_is_exact.Goals as goal

pub returns : goal.returns
returns c = complete-exact
