use Rattle.transaction_laws.proofs.Inserting.{full_meets}
use Rattle.transaction_laws.proofs.laws.full_meets.Goals as goal

pub returns : goal.returns
returns c = full_meets
