use Rattle.tree_model.proofs.Halves.{balanced-split}
use Rattle.tree_model.proofs.laws.balanced_halves_at_root.Goals as goal

pub returns : goal.returns
returns g c = balanced-split
