use Rattle.table_model.proofs.StoreMaps.{maps_compose}
use Rattle.table_model.proofs.shelf_laws.tables_compose.Goals as goal

pub returns : goal.returns
returns g c = maps_compose
