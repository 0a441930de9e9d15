use Rattle.transaction_laws.proofs.Inserting.{insert_meets}
use Rattle.transaction_laws.proofs.laws.insert_meets.Goals as goal

pub returns : goal.returns
returns c = insert_meets
