use Rattle.table_model.proofs.StoreMaps.{maps_nothing}
use Rattle.table_model.proofs.shelf_laws.maps_nothing.Goals as goal

pub returns : goal.returns
returns g c = maps_nothing _
