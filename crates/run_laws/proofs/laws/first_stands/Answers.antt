use Rattle.run_laws.proofs.TurnSteps.{first_stands}
use Rattle.run_laws.proofs.laws.first_stands.Goals as goal

pub returns : goal.returns
returns c = first_stands
