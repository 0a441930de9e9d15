use Rattle.table_model.proofs.Maps.{shelves_are_blind}
use Rattle.table_model.proofs.shelf_laws.shelves_are_blind.Goals as goal

pub returns : goal.returns
returns g c = shelves_are_blind
