use Rattle.std.proofs.Common.{sym, ◌∙◌}
use Rattle.code_changes.proofs.Both.{both_none, both_some}
use Rattle.summary.proofs.carrying.after_both.Goals as goal

pub returns-in_err-apply : goal.returns-in_err-apply
returns-in_err-apply c =
    c.from_residual.ensures ∙ sym (both_none c.args.change.now c.args.next.now c.args.code (sym c.apply.ensures.value ∙ c.in_err-apply.was))

pub returns : goal.returns
returns c =
    c.apply-2.ensures.value ∙ sym (both_some c.args.change.now c.args.next.now c.args.code c.in_ok-apply.field-0 (sym c.apply.ensures.value ∙ c.in_ok-apply.was))
