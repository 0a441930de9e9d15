use Rattle.tree_model.proofs.Kept.{items-lay}
use Rattle.tree_model.proofs.column_laws.lay_keeps_items.Goals as goal

pub returns : goal.returns
returns g c = items-lay
