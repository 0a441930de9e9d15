use Rattle.transaction_laws.proofs.Ending.{conflict_meets}
use Rattle.transaction_laws.proofs.laws.conflict_meets.Goals as goal

pub returns : goal.returns
returns c = conflict_meets
