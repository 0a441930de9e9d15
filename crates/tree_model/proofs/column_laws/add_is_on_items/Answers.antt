use Rattle.tree_model.proofs.Kept.{items-add}
use Rattle.tree_model.proofs.column_laws.add_is_on_items.Goals as goal

pub returns : goal.returns
returns g c = items-add
