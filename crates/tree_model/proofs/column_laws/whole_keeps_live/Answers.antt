use Rattle.tree_model.proofs.Kept.{inorder-whole}
use Rattle.tree_model.proofs.column_laws.whole_keeps_live.Goals as goal

pub returns : goal.returns
returns g c = inorder-whole
