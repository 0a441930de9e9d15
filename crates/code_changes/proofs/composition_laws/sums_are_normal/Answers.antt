use Rattle.code_changes.proofs.NormalSums.{sums_are_normal}
use Rattle.code_changes.proofs.composition_laws.sums_are_normal.Goals as goal

pub returns : goal.returns
returns g c = sums_are_normal
