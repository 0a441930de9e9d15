use Rattle.table_model.proofs.ByColumns.{tables_by_columns}
use Rattle.table_model.proofs.step_laws.tables_by_columns.Goals as goal

pub returns : goal.returns
returns g c = tables_by_columns
