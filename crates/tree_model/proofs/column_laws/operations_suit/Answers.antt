use Rattle.tree_model.specs.Columns.{empty_column}
use Rattle.tree_model.proofs.Suits.{SuitsMode-apply_all, SuitsMode-empty}
use Rattle.tree_model.proofs.column_laws.operations_suit.Goals as goal

pub returns : goal.returns
returns g c same_time operations = SuitsMode-apply_all same_time operations (empty_column _) (SuitsMode-empty _ same_time)
