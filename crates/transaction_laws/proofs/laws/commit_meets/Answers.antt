use Rattle.transaction_laws.proofs.Ending.{commit_meets}
use Rattle.transaction_laws.proofs.laws.commit_meets.Goals as goal

pub returns : goal.returns
returns c = commit_meets
