use Rattle.table_model.proofs.ShelfSoundOps.{operations_leave_rows}
use Rattle.table_model.proofs.rank_laws.operations_leave_rows.Goals as goal

pub returns : goal.returns
returns g c = operations_leave_rows
