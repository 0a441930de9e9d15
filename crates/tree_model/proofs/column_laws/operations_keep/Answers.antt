use Rattle.tree_model.specs.Columns.{empty_column}
use Rattle.tree_model.proofs.Kept.{IsKept-apply_mixed, IsKept-empty}
use Rattle.tree_model.proofs.column_laws.operations_keep.Goals as goal

pub returns : goal.returns
returns g c operations = IsKept-apply_mixed operations (empty_column _) (IsKept-empty _)
