use Rattle.code_changes.proofs.Leading.{operations_fit}
use Rattle.code_changes.proofs.laws.operations_fit.Goals as goal

pub returns : goal.returns
returns g c = operations_fit
