use Rattle.run_laws.proofs.Upholding.{start_is_upheld}
use Rattle.run_laws.proofs.seats.start_is_upheld.Goals as goal

pub returns : goal.returns
returns c = start_is_upheld
