use Rattle.table_model.proofs.StoreMaps.{stores_map}
use Rattle.table_model.proofs.shelf_laws.stores_map.Goals as goal

pub returns : goal.returns
returns g c = stores_map
