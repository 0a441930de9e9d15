use Rattle.transaction_laws.proofs.Ending.{begin_meets}
use Rattle.transaction_laws.proofs.laws.begin_meets.Goals as goal

pub returns : goal.returns
returns c = begin_meets
