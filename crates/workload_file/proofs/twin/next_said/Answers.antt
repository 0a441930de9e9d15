use Rattle.std.proofs.Common.{◌≡◌, List, length, subst, sym, ◌∙◌, rules, arith}
use Rattle.workload_file.specs.FileLines.{IsLine, lines_of}
use Rattle.workload_file.proofs.TwinReading.{no_lines}
use Rattle.workload_file.proofs.TwinSaid.{blank_passed, next_found, none_found}
use Rattle.workload_file.proofs.twin.next_said.Goals as goal

pub blank-preserved : goal.blank-preserved
blank-preserved c = record {
  counted = omega (arith, c.blank.invariant.counted, c.first_line.ensures.shorter);
  shorter = omega (arith, c.blank.invariant.shorter, c.first_line.ensures.shorter);
  same = λ all says.
      blank_passed c.blank.number c.first_line.result.0.now (lines_of c.first_line.result.1.now) (lines_of c.blank.rest.now) c.in_ok-said.said all c.first_line.ensures.cut
      (subst (λ (l : List _). IsLine l c.in_ok-said.said) c.without_return.ensures c.in_ok-said.ensures) (sym c.is_blank.ensures ∙ c.if-not-is_blank.false) (c.blank.invariant.same all says);
}

pub returns : goal.returns
returns c = record {
  said =
      (let none : length c.blank.rest.now ≡ 0 = search rules in
      none_found c.args.number c.blank.number (lines_of c.args.bytes.now) (lines_of c.blank.rest.now) c.blank.invariant.same (no_lines c.blank.rest.now none));
  counted = tt;
  shorter = tt;
}

pub returns-then-not-is_blank : goal.returns-then-not-is_blank
returns-then-not-is_blank c = record {
  said =
      next_found c.args.number c.blank.number c.first_line.result.0.now (lines_of c.args.bytes.now) (lines_of c.first_line.result.1.now) (lines_of c.blank.rest.now) c.in_ok-said.said c.blank.invariant.same c.first_line.ensures.cut
      (subst (λ (l : List _). IsLine l c.in_ok-said.said) c.without_return.ensures c.in_ok-said.ensures) (sym c.is_blank.ensures ∙ c.if-not-is_blank.true);
  counted = omega (arith, c.blank.invariant.counted, c.first_line.ensures.shorter);
  shorter = omega (arith, c.blank.invariant.shorter, c.first_line.ensures.shorter);
}
