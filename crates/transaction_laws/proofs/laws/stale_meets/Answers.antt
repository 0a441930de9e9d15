use Rattle.transaction_laws.proofs.Ending.{stale_meets}
use Rattle.transaction_laws.proofs.laws.stale_meets.Goals as goal

pub returns : goal.returns
returns c = stale_meets
