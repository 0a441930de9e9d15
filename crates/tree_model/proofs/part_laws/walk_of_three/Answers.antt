use Rattle.std.proofs.Common.{refl}
use Rattle.tree_model.specs.Trees.{side_by, onward, rooted, halved, balanced}
use Rattle.tree_model.specs.Walks.{walk}
use Rattle.tree_model.proofs.part_laws.walk_of_three.Goals as goal

pub returns : goal.returns
unfolding side_by onward rooted halved balanced walk
returns c = refl
