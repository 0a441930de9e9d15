use Rattle.run_laws.proofs.TurnSteps.{install_goes}
use Rattle.run_laws.proofs.laws.install_stands.Goals as goal

pub returns : goal.returns
returns c = install_goes
