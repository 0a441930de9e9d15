use Rattle.std.proofs.Common.{◌∙◌, ap, ◌++◌}
use Rattle.mope_top.specs.FaultText.{fault_text}
use Rattle.mope_top.proofs.RefusalLemmas.{five-pushed}
use Rattle.mope_top.proofs.refusals.fault_line.Goals as goal

pub returns : goal.returns
unfolding fault_text
returns c =
    five-pushed _ _ _ _ _ _ _ _ _ _ _ c.new-text.ensures.items c.in_ok-push.ensures c.in_ok-push_decimal.ensures c.in_ok-push-2.ensures
    (c.in_ok-push-3.ensures ∙ ap (λ words. c.push-2.new.text.items ++ words) c.words_of.ensures) c.in_ok-push-4.ensures
