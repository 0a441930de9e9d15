use Rattle.table_model.proofs.Bridge.{shelf_of-empty}
use Rattle.table_model.proofs.shelf_laws.empty_shelf.Goals as goal

pub returns : goal.returns
returns g c = shelf_of-empty
