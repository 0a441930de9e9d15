use Rattle.std.proofs.Common.{◌<◌, arith, rules}
use Rattle.path_code.proofs.Spelling.{bit-lt, child_within, child_fits, steps_child}
use Rattle.path_code.proofs.codes.child.Goals as goal

pub overflow_add-result : goal.overflow_add-result
overflow_add-result c =
    let small : c.bit_of-bit.result < 2 = omega (arith, bit-lt c.args.side) in
    let fits = child_fits c.args.path.len c.args.path.bits c.bit_of-bit.result c.args.path.within c.requires small in
    search rules

pub invariant_of-result : goal.invariant_of-result
invariant_of-result c =
    let small : c.bit_of-bit.result < 2 = omega (arith, bit-lt c.args.side) in
    record {
      short = omega arith;
      within = child_within c.args.path.len c.args.path.bits c.bit_of-bit.result c.args.path.within small;
    }

pub returns-clause-way : goal.returns-clause-way
returns-clause-way c = rw c.bit_of-bit.ensures (steps_child c.args.path.len c.args.path.bits c.args.side)
