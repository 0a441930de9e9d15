use Rattle.std.proofs.Common.{◌∙◌, ap, sym}
use Rattle.sql_text.proofs.Driving.{none_left, same_fault}
use Rattle.sql_text.specs.Scans.{fault_of}
use Rattle.sql_text.proofs.lines.token_fault.Goals as goal

pub tokens-preserved : goal.tokens-preserved
tokens-preserved c = record {
  within = c.skip_blanks-at-in-Ok.ensures.within;
  begins = c.skip_blanks-at-in-Ok.ensures.ended;
  same = c.tokens.invariant.same ∙ ap (λ r. fault_of r) c.in-Ok.ensures.tokens ∙ same_fault _ _ ∙ ap (λ r. fault_of r) c.skip_blanks-at-in-Ok.ensures.same;
}

pub returns : goal.returns
returns c = sym (c.tokens.invariant.same ∙ ap (λ r. fault_of r) (none_left c.args.line.now c.tokens.at c.tokens-test.false))
