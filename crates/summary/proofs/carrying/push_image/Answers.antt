use Rattle.std.proofs.Common.{ℕ, ◌++◌, List, ap, sym, ◌∙◌, append-nil}
use Rattle.summary.proofs.Steps.{images-one, images-lost}
use Rattle.summary.proofs.carrying.push_image.Goals as goal

pub returns-in_ok-push : goal.returns-in_ok-push
returns-in_ok-push c =
    let one = images-one c.args.change.now c.args.code c.in-Some.new (sym c.apply.ensures.value ∙ c.in-Some.is) in
    c.in_ok-push.ensures.items ∙ sym (ap (λ (xs : List ℕ). c.args.after.now.items ++ xs) one)

pub returns-in_default : goal.returns-in_default
returns-in_default c =
    let none = images-lost c.args.change.now c.args.code (sym c.apply.ensures.value ∙ c.in_default.is) in
    sym (ap (λ (xs : List ℕ). c.args.after.now.items ++ xs) none ∙ append-nil c.args.after.now.items)
