use Rattle.run_laws.proofs.Standing.{run_stands}
use Rattle.run_laws.proofs.laws.run_stands.Goals as goal

pub returns : goal.returns
returns c = run_stands
