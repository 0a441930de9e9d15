use Rattle.std.proofs.Common.{◌≡◌, true, false, None, Some, sym, ◌∙◌, arith}
use Rattle.workload_file.specs.FileLines.{lines_of}
use Rattle.workload_file.proofs.TwinSaid.{first_ends, lines_agree, lines_differ, second_ends}
use Rattle.workload_file.proofs.twin.first_difference.Goals as goal

pub lines-preserved : goal.lines-preserved
lines-preserved c =
    let said = rw c.in-Some.is at c.in_ok-line.ensures.said in
    let other = rw c.in-Some-2.is at c.in_ok-other_line.ensures.said in
    let fewer = rw c.in-Some.is at c.in_ok-line.ensures.counted in
    let few = rw c.in-Some-2.is at c.in_ok-other_line.ensures.counted in
    record {
      first_counted = omega (arith, few, c.lines.invariant.first_counted);
      counted = omega (arith, fewer, c.lines.invariant.counted);
      same = λ found later. c.lines.invariant.same found
          (lines_agree c.lines.first_number c.lines.number c.in-Some-2.other_line c.in-Some.line (lines_of c.lines.first.now) (lines_of c.lines.second.now) (lines_of c.in-Some-2.other_behind.now) (lines_of c.in-Some.behind.now)
          c.in-Some-2.other c.in-Some.said found other said (c.in_ok-have_one_shape.ensures.0 c.if-not-branch.false) later);
    }

pub returns-in_default : goal.returns-in_default
returns-in_default c =
    c.lines.invariant.same None (second_ends c.lines.first_number c.lines.number (lines_of c.lines.first.now) (lines_of c.lines.second.now) (rw c.in_default.is at c.in_ok-line.ensures.said))

pub returns-in_default-2 : goal.returns-in_default-2
returns-in_default-2 c =
    let said = rw c.in-Some.is at c.in_ok-line.ensures.said in
    c.lines.invariant.same (Some c.in-Some.line)
    (first_ends c.lines.first_number c.lines.number c.in-Some.line (lines_of c.lines.first.now) (lines_of c.lines.second.now) (lines_of c.in-Some.behind.now) c.in-Some.said
    (rw c.in_default-2.is at c.in_ok-other_line.ensures.said) said)

pub returns-then-not-branch : goal.returns-then-not-branch
returns-then-not-branch c =
    let said = rw c.in-Some.is at c.in_ok-line.ensures.said in
    let other = rw c.in-Some-2.is at c.in_ok-other_line.ensures.said in
    c.lines.invariant.same (Some c.in-Some.line)
    (lines_differ c.lines.first_number c.lines.number c.in-Some-2.other_line c.in-Some.line (lines_of c.lines.first.now) (lines_of c.lines.second.now) (lines_of c.in-Some-2.other_behind.now) (lines_of c.in-Some.behind.now)
    c.in-Some-2.other c.in-Some.said other said
    (λ same. let both : true ≡ false = sym (c.in_ok-have_one_shape.ensures.1 same) ∙ c.if-not-branch.true in let no : ⊥ = cc in no))
