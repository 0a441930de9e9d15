use Rattle.table_model.proofs.Ops.{operations_are_blind}
use Rattle.table_model.proofs.operation_laws.operations_are_blind.Goals as goal

pub returns : goal.returns
returns g c = operations_are_blind
