use Rattle.table_model.proofs.Deleted.{delete_takes_rows}
use Rattle.table_model.proofs.store_laws.delete_takes_rows.Goals as goal

pub returns : goal.returns
returns g c = delete_takes_rows
