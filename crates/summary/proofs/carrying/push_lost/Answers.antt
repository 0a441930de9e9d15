use Rattle.std.proofs.Common.{◌≡◌, ℕ, true, false, ◌++◌, List, [], ◌∷◌, Option, Some, None, is_some, ap, sym, ◌∙◌, append-nil, refl}
use Rattle.code_changes.specs.Compositions.{lost_if}
use Rattle.summary.proofs.Steps.{lost_if-none, lost_if-some}
use Rattle.summary.proofs.carrying.push_lost.Goals as goal

stays : (code : ℕ) (o : Option ℕ) → is_some o ≡ true → lost_if code o [] ≡ []
stays code (Some n) yes_ = lost_if-some code n (Some n) refl
stays code None yes_ = absurd (cc)

goes : (code : ℕ) (o : Option ℕ) → is_some o ≡ false → lost_if code o [] ≡ code ∷ []
goes code (Some n) no_ = absurd (cc)
goes code None no_ = lost_if-none code None refl

pub returns-then-is_some : goal.returns-then-is_some
returns-then-is_some c =
    let none = stays c.args.code c.args.becomes (sym c.is_some.ensures ∙ c.if-is_some.true) in
    sym (ap (λ (xs : List ℕ). c.args.dropped.now.items ++ xs) none ∙ append-nil c.args.dropped.now.items)

pub returns : goal.returns
returns c =
    let one = goes c.args.code c.args.becomes (sym c.is_some.ensures ∙ c.if-is_some.false) in
    c.in_ok-push.ensures.items ∙ sym (ap (λ (xs : List ℕ). c.args.dropped.now.items ++ xs) one)
