use Rattle.std.proofs.Common.{refl, le-leb}
use Rattle.std.proofs.lemmas.Bool.{lt-leb}
use Rattle.workload.specs.Selection.{meets}
use Rattle.sql_plan.specs.Bounds.{as_test}
use Rattle.sql_plan.proofs.walking.holds.Goals as goal

pub returns-then-bound-code : goal.returns-then-bound-code
unfolding meets as_test
returns-then-bound-code c = rw (le-leb c.args.bound.now.lo c.args.code c.if-bound-code.true) refl

pub returns-else-bound-code : goal.returns-else-bound-code
unfolding meets as_test
returns-else-bound-code c = rw (lt-leb c.args.bound.now.lo c.args.code c.if-bound-code.false) refl
