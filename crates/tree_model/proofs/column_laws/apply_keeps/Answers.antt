use Rattle.tree_model.proofs.Kept.{IsKept-apply}
use Rattle.tree_model.proofs.column_laws.apply_keeps.Goals as goal

pub returns : goal.returns
returns g c = IsKept-apply
