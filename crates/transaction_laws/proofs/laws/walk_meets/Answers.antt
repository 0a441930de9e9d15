use Rattle.transaction_laws.proofs.Walking.{walk_meets}
use Rattle.transaction_laws.proofs.laws.walk_meets.Goals as goal

pub returns : goal.returns
returns c = walk_meets
