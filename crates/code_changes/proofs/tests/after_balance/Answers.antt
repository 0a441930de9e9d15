use Rattle.std.proofs.Common.{arith}
use Rattle.tree_model.specs.Places.{IsBelowAll, IsIncreasing}
use Rattle.code_changes.proofs.tests.after_balance.Goals as goal

pub new_code-requires : goal.new_code-requires
unfolding IsIncreasing IsBelowAll
new_code-requires c = ((omega arith, (omega arith, (omega arith, tt))), ((omega arith, (omega arith, tt)), ((omega arith, tt), (tt, tt))))
