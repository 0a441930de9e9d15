use Rattle.code_changes.proofs.Shifted.{removal_moves}
use Rattle.code_changes.proofs.removal_laws.removal_moves.Goals as goal

pub returns : goal.returns
returns g c = removal_moves
