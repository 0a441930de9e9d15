use Rattle.std.proofs.Common.{ℕ, ◌++◌, List, ap, sym, ◌∙◌, append-nil}
use Rattle.summary.proofs.Steps.{others-out, others-in}
use Rattle.summary.proofs.gathering.push_other.Goals as goal

pub returns-then-holds : goal.returns-then-holds
returns-then-holds c =
    let none = others-out c.args.excluded.now c.args.code (sym c.holds.ensures ∙ c.if-holds.true) in
    sym (ap (λ (xs : List ℕ). c.args.rest.now.items ++ xs) none ∙ append-nil c.args.rest.now.items)

pub returns : goal.returns
returns c =
    let one = others-in c.args.excluded.now c.args.code (sym c.holds.ensures ∙ c.if-holds.false) in
    c.in_ok-push.ensures.items ∙ sym (ap (λ (xs : List ℕ). c.args.rest.now.items ++ xs) one)
