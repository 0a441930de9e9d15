use Rattle.tree_model.proofs.Removals.{inorder-remove_tree}
use Rattle.tree_model.proofs.column_laws.remove_takes_item.Goals as goal

pub returns : goal.returns
returns g c = inorder-remove_tree
