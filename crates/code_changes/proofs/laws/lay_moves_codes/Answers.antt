use Rattle.code_changes.proofs.Staying.{lay_moves_codes}
use Rattle.code_changes.proofs.laws.lay_moves_codes.Goals as goal

pub returns : goal.returns
returns g c = lay_moves_codes
