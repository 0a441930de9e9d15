use Rattle.tree_model.proofs.Kept.{items-drop}
use Rattle.tree_model.proofs.column_laws.drop_is_on_items.Goals as goal

pub returns : goal.returns
returns g c = items-drop
