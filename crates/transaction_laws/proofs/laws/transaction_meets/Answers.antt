use Rattle.transaction_laws.proofs.Transacting.{transaction_meets}
use Rattle.transaction_laws.proofs.laws.transaction_meets.Goals as goal

pub returns : goal.returns
returns c = transaction_meets
