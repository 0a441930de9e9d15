use Rattle.tree_model.proofs.ColumnOrder.{SuitsMode-map}
use Rattle.tree_model.proofs.column_laws.suits_is_blind.Goals as goal

pub returns : goal.returns
returns g c = SuitsMode-map
