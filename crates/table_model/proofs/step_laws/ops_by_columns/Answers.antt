use Rattle.table_model.proofs.ByColumns.{ops_by_columns}
use Rattle.table_model.proofs.step_laws.ops_by_columns.Goals as goal

pub returns : goal.returns
returns g c = ops_by_columns
