use Rattle.table_model.proofs.Ops.{ops_on_same}
use Rattle.table_model.proofs.operation_laws.ops_on_same.Goals as goal

pub returns : goal.returns
returns g c = ops_on_same
