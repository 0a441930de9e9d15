use Rattle.tree_model.proofs.ColumnOrder.{IsKept-map}
use Rattle.tree_model.proofs.column_laws.kept_is_blind.Goals as goal

pub returns : goal.returns
returns g c = IsKept-map
