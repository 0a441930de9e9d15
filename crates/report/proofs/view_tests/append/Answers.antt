use Rattle.std.proofs.Common.{arith}
use Rattle.tree_model.specs.Trees.{IsPlaceOf}
use Rattle.report.proofs.view_tests.append.Goals as goal

-- the gap after all items
pub insert_at-requires-clause-is_place : goal.insert_at-requires-clause-is_place
unfolding IsPlaceOf
insert_at-requires-clause-is_place c = omega (arith, c.len-len.ensures.value)
