use Rattle.std.proofs.lemmas.Result.{IfOk-weaker}
use Rattle.mope_top.proofs.DoingLemmas.{judged-told}
use Rattle.mope_top.proofs.plain.judge_plainly.Goals as goal

pub returns-in-Ok-clause-text : goal.returns-in-Ok-clause-text
returns-in-Ok-clause-text c =
    IfOk-weaker c.told.result _ _ (λ verdict same.
    judged-told c.args.turns.now c.args.bytes.now c.in-Ok.w verdict.status verdict.text.items c.in-Ok.ensures.read same) c.told.ensures.ok
