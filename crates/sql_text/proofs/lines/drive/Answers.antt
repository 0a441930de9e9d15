use Rattle.std.proofs.Common.{◌≤◌, ◌<◌, ◌+◌, length, rules, arith, ◌∙◌, ap, sym}
use Rattle.sql_text.proofs.Driving.{none_left, driven_on, driven_wrong, driven_fault, driven_end}
use Rattle.sql_text.proofs.Driven.{driven}
use Rattle.sql_text.specs.declared.states.State.TheVariants.{Start}
use Rattle.sql_text.proofs.lines.drive.Goals as goal

pub tokens-init : goal.tokens-init
tokens-init c = record {
  within = c.skip_blanks-at.ensures.within;
  begins = c.skip_blanks-at.ensures.ended;
  same = ap (λ r. driven Start r) c.skip_blanks-at.ensures.same;
}

pub returns-in_default : goal.returns-in_default
returns-in_default c tokens lexed =
    let none = rw c.in_default.is at c.in-Ok.ensures in
    driven_fault _ Start c.tokens.state tokens none.0 (sym (ap (λ r. driven Start r) lexed) ∙ c.tokens.invariant.same ∙ ap (λ r. driven c.tokens.state r) none.1)

pub overflow_add-at : goal.overflow_add-at
overflow_add-at c =
    let here = rw c.in-Some.is at c.in-Ok.ensures in
    let within : c.tokens.at + c.in-Some.size ≤ length c.args.line.now = here.within in
    search rules

pub skip_blanks-at-requires-in-Some-2 : goal.skip_blanks-at-requires-in-Some-2
skip_blanks-at-requires-in-Some-2 c =
    let here = rw c.in-Some.is at c.in-Ok.ensures in
    here.within

pub tokens-smaller : goal.tokens-smaller
tokens-smaller c =
    let here = rw c.in-Some.is at c.in-Ok.ensures in
    let some : 0 < c.in-Some.size = here.some in
    omega arith

pub tokens-preserved : goal.tokens-preserved
tokens-preserved c =
    let here = rw c.in-Some.is at c.in-Ok.ensures in
    record {
      within = c.skip_blanks-at-in-Some-2.ensures.within;
      begins = c.skip_blanks-at-in-Some-2.ensures.ended;
      same = c.tokens.invariant.same ∙ ap (λ r. driven c.tokens.state r) here.tokens ∙ driven_on c.tokens.state _ c.in-Some-2.after _ (sym c.in_ok-after.ensures ∙ c.in-Some-2.is) ∙ ap (λ r. driven c.in-Some-2.after r) c.skip_blanks-at-in-Some-2.ensures.same;
    }

pub returns-in-None : goal.returns-in-None
returns-in-None c tokens lexed =
    let here = rw c.in-Some.is at c.in-Ok.ensures in
    driven_wrong Start c.tokens.state tokens _ _ (sym (ap (λ r. driven Start r) lexed) ∙ c.tokens.invariant.same ∙ ap (λ r. driven c.tokens.state r) here.tokens) (sym c.in_ok-after.ensures ∙ c.in-None.is)

pub returns : goal.returns
returns c tokens lexed = driven_end Start c.tokens.state tokens (sym (ap (λ r. driven Start r) lexed) ∙ c.tokens.invariant.same ∙ ap (λ r. driven c.tokens.state r) (none_left c.args.line.now c.tokens.at c.tokens-test.false))
