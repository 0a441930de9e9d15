use Rattle.transaction_laws.proofs.Ending.{close_meets}
use Rattle.transaction_laws.proofs.laws.close_meets.Goals as goal

pub returns : goal.returns
returns c = close_meets
