use Rattle.tree_model.proofs.Halves.{balanced-IsShallow}
use Rattle.tree_model.proofs.laws.balanced_is_shallow.Goals as goal

pub returns : goal.returns
returns g c = balanced-IsShallow
