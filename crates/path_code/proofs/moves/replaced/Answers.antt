use Rattle.std.proofs.Common.{◌-◌, ◌%◌, ◌^◌, arith, rules, length-append}
use Rattle.path_code.specs.Codes.{steps}
use Rattle.path_code.specs.Ways.{way}
use Rattle.path_code.proofs.Spelling.{length-steps}
use Rattle.path_code.proofs.Replacing.{begins, replaced}
use Rattle.path_code.proofs.moves.replaced.Goals as goal

pub returns-then-path-m : goal.returns-then-path-m
returns-then-path-m c rest e =
    let told = begins c.args.m.from.len c.args.m.from.bits c.args.path.len c.args.path.bits rest c.args.m.from.within c.args.path.within e in
    absurd (omega (arith, told.lengths))

pub returns-then-path-count : goal.returns-then-path-count
returns-then-path-count c rest e =
    let told = begins c.args.m.from.len c.args.m.from.bits c.args.path.len c.args.path.bits rest c.args.m.from.within c.args.path.within e in
    absurd (c.if-path-count.true told.front)

pub returns-then-m-count-gt-LONGEST : goal.returns-then-m-count-gt-LONGEST
returns-then-m-count-gt-LONGEST c rest e =
    let told = begins c.args.m.from.len c.args.m.from.bits c.args.path.len c.args.path.bits rest c.args.m.from.within c.args.path.within e in
    omega (arith, told.lengths, length-append (way c.args.m.to) rest, length-steps c.args.m.to.len c.args.m.to.bits)

pub overflow_add-result : goal.overflow_add-result
overflow_add-result c =
    let parts = replaced c.args.m.from.len c.args.m.from.bits c.args.m.to.len c.args.m.to.bits c.args.path.len c.args.path.bits c.args.m.from.within c.args.m.to.within c.if-path-m.false c.args.path.short c.if-m-count-gt-LONGEST.false c.if-path-count.false in
    let fits = parts.fits in
    search rules

pub invariant_of-result : goal.invariant_of-result
invariant_of-result c =
    let parts = replaced c.args.m.from.len c.args.m.from.bits c.args.m.to.len c.args.m.to.bits c.args.path.len c.args.path.bits c.args.m.from.within c.args.m.to.within c.if-path-m.false c.args.path.short c.if-m-count-gt-LONGEST.false c.if-path-count.false in
    record { short = c.if-m-count-gt-LONGEST.false; within = parts.within }

pub returns : goal.returns
returns c =
    let parts = replaced c.args.m.from.len c.args.m.from.bits c.args.m.to.len c.args.m.to.bits c.args.path.len c.args.path.bits c.args.m.from.within c.args.m.to.within c.if-path-m.false c.args.path.short c.if-m-count-gt-LONGEST.false c.if-path-count.false in
    let count = c.args.path.len - c.args.m.from.len in
    record { rest = steps count (c.args.path.bits % 2 ^ count); before = parts.before; after = parts.after }
