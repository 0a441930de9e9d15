use Rattle.code_changes.proofs.NormalSums.{sums_compose}
use Rattle.code_changes.proofs.composition_laws.sums_compose.Goals as goal

pub returns : goal.returns
returns g c = sums_compose
