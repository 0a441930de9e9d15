-- Lists with no element and with one.
use Rattle.std.proofs.Common.{◌≡◌, List, [], ◌∷◌, length, get_or, refl, ap, sym, arith}

pub of_none : {A : Type 0} (xs : List A) → length xs ≡ 0 → xs ≡ []
of_none [] h = refl
of_none (x ∷ xs) h = absurd (omega (arith, h))

pub of_one : {A : Type 0} (xs : List A) (x : A) → length xs ≡ 1 → x ≡ get_or xs 0 x → xs ≡ x ∷ []
of_one [] x h is = absurd (omega (arith, h))
of_one (y ∷ []) x h is = ap (λ (z : _). z ∷ []) (sym is)
of_one (y ∷ z ∷ xs) x h is = absurd (omega (arith, h))
