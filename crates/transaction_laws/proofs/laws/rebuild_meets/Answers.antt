use Rattle.transaction_laws.proofs.Transacting.{rebuild_meets}
use Rattle.transaction_laws.proofs.laws.rebuild_meets.Goals as goal

pub returns : goal.returns
returns c = rebuild_meets
