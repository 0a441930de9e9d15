use Rattle.std.proofs.Common.{◌∙◌, ap, sym}
use Rattle.sql_text.proofs.Driving.{none_left}
use Rattle.sql_text.proofs.FrameVerdicts.{walked_on, walked_wrong, walked_fault, walked_end}
use Rattle.sql_text.specs.FrameMachine.{walked}
use Rattle.sql_text.specs.declared.frame_steps.Framing.TheVariants.{Start}
use Rattle.sql_text.proofs.frames.walk.Goals as goal

pub tokens-init : goal.tokens-init
tokens-init c = record {
  within = c.skip_blanks-at.ensures.within;
  begins = c.skip_blanks-at.ensures.ended;
  same = ap (λ r. walked Start r) c.skip_blanks-at.ensures.same;
}

pub returns-in_default : goal.returns-in_default
returns-in_default c =
    let none = rw c.in_default.is at c.in_ok-token.ensures in
    sym (c.tokens.invariant.same ∙ walked_fault c.tokens.state _ none.0 none.1)

pub tokens-preserved : goal.tokens-preserved
tokens-preserved c =
    let here = rw c.in-Some.is at c.in_ok-token.ensures in
    record {
      within = c.skip_blanks-at-in-Some-2.ensures.within;
      begins = c.skip_blanks-at-in-Some-2.ensures.ended;
      same = c.tokens.invariant.same ∙ ap (λ r. walked c.tokens.state r) here.tokens ∙ walked_on c.tokens.state _ c.in-Some-2.after _ (sym c.in_ok-after.ensures ∙ c.in-Some-2.is) ∙ ap (λ r. walked c.in-Some-2.after r) c.skip_blanks-at-in-Some-2.ensures.same;
    }

pub returns-in-None : goal.returns-in-None
returns-in-None c =
    let here = rw c.in-Some.is at c.in_ok-token.ensures in
    sym (c.tokens.invariant.same ∙ ap (λ r. walked c.tokens.state r) here.tokens ∙ walked_wrong c.tokens.state _ _ (sym c.in_ok-after.ensures ∙ c.in-None.is))

pub returns : goal.returns
returns c = sym (c.tokens.invariant.same ∙ walked_end c.tokens.state _ (none_left c.args.line.now c.tokens.at c.tokens-test.false))
