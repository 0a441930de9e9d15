use Rattle.tree_model.proofs.Grafts.{inorder-balanced_at}
use Rattle.tree_model.proofs.column_laws.part_keeps_items.Goals as goal

pub returns : goal.returns
returns g c = inorder-balanced_at
