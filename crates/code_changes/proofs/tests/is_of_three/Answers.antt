use Rattle.std.proofs.Common.{arith}
use Rattle.tree_model.specs.Places.{IsBelowAll, IsIncreasing}
use Rattle.code_changes.proofs.tests.is_of_three.Goals as goal

pub holds-requires : goal.holds-requires
unfolding IsIncreasing IsBelowAll
holds-requires c = ((omega arith, (omega arith, tt)), ((omega arith, tt), (tt, tt)))
