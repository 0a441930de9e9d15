use Rattle.tree_model.proofs.Depths.{inorder-insert_tree}
use Rattle.tree_model.proofs.column_laws.insert_puts_item.Goals as goal

pub returns : goal.returns
returns g c = inorder-insert_tree
