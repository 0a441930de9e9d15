use Rattle.tree_model.proofs.ColumnOrder.{operations_keep_order}
use Rattle.tree_model.proofs.column_laws.operations_keep_order.Goals as goal

pub returns : goal.returns
returns g c = operations_keep_order
