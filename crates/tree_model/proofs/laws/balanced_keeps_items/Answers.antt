use Rattle.tree_model.proofs.Halves.{inorder-balanced}
use Rattle.tree_model.proofs.laws.balanced_keeps_items.Goals as goal

pub returns : goal.returns
returns g c = inorder-balanced
