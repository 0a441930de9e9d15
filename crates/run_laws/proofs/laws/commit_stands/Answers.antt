use Rattle.run_laws.proofs.TurnSteps.{commit_stands}
use Rattle.run_laws.proofs.laws.commit_stands.Goals as goal

pub returns : goal.returns
returns c = commit_stands
