use Rattle.table_model.proofs.Bridge.{values_are_ranks}
use Rattle.table_model.proofs.shelf_laws.values_are_ranks.Goals as goal

pub returns : goal.returns
returns g c = values_are_ranks
