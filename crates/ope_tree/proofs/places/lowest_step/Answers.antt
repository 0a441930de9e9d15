use Rattle.std.proofs.Common.{◌≡◌, ◌%◌, refl, arith}
use Rattle.path_code.specs.Codes.{side_of}
use Rattle.ope_tree.proofs.places.lowest_step.Goals as goal

pub returns-then-bits-eq0 : goal.returns-then-bits-eq0
unfolding side_of
returns-then-bits-eq0 c =
    let even : c.args.bits % 2 ≡ 0 = omega arith in
    rw even refl

pub returns-else-bits-eq0 : goal.returns-else-bits-eq0
unfolding side_of
returns-else-bits-eq0 c =
    let odd : c.args.bits % 2 ≡ 1 = omega arith in
    rw odd refl
