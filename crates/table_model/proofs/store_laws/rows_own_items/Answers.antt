use Rattle.table_model.proofs.Sound.{rows_own_items}
use Rattle.table_model.proofs.store_laws.rows_own_items.Goals as goal

pub returns : goal.returns
returns g c = rows_own_items
