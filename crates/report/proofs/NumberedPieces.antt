-- Texts that grow by the elements of a list, each with its number, and what holds of each element.
use Rattle.std.proofs.Common.{◌≡◌, refl, sym, ◌∙◌, ap, subst, ℕ, zero, suc, ◌+◌, ◌<◌, ◌≤◌, List, [], ◌∷◌, ◌++◌, length, get_or, drop, append_assoc, append-nil, arith}
use Rattle.std.proofs.lemmas.List.{drop_more, drop_all}
use Rattle.mope_base.specs.Lists.{Each}
use Rattle.report.specs.ViewText.{numbered_from}

first_numbered : {A : Type 0} (f : ℕ → A → List ℕ) (number : ℕ) (x : A) (xs : List A) → numbered_from f number (x ∷ xs) ≡ f number x ++ numbered_from f (suc number) xs
unfolding numbered_from
first_numbered f number x xs = refl

none_numbered : {A : Type 0} (f : ℕ → A → List ℕ) (number : ℕ) → numbered_from f number [] ≡ []
unfolding numbered_from
none_numbered f number = refl

-- what is left of the list, put behind the text so far, gives the whole
pub more_numbered : {A : Type 0} (f : ℕ → A → List ℕ) (text next whole : List ℕ) (xs : List A) (i number after : ℕ) (x : A) → i < length xs → x ≡ get_or xs i x → after ≡ suc number
    → next ≡ text ++ f number x → text ++ numbered_from f number (drop i xs) ≡ whole → next ++ numbered_from f after (drop (i + 1) xs) ≡ whole
more_numbered {A} f text next whole xs i number after x h at one e so_far =
    let rest : List A = drop (i + 1) xs in
    let split : drop i xs ≡ x ∷ rest = drop_more xs i x h ∙ ap (λ (y : A). y ∷ rest) (sym at) in
    ap (λ (n : ℕ). next ++ numbered_from f n rest) one
    ∙ ap (λ l. l ++ numbered_from f (suc number) rest) e
    ∙ append_assoc text (f number x) (numbered_from f (suc number) rest)
    ∙ ap (λ l. text ++ l) (sym (first_numbered f number x rest))
    ∙ ap (λ (ys : List A). text ++ numbered_from f number ys) (sym split)
    ∙ so_far

pub all_numbered : {A : Type 0} (f : ℕ → A → List ℕ) (text whole : List ℕ) (xs : List A) (i number : ℕ) → length xs ≤ i
    → text ++ numbered_from f number (drop i xs) ≡ whole → text ≡ whole
all_numbered {A} f text whole xs i number h so_far =
    sym (append-nil text)
    ∙ ap (λ l. text ++ l) (sym (none_numbered f number))
    ∙ ap (λ (ys : List A). text ++ numbered_from f number ys) (sym (drop_all i xs h))
    ∙ so_far

pub each-at : {A : Type 0} (P : A → Type 0) (xs : List A) (i : ℕ) (x : A) → i < length xs → x ≡ get_or xs i x → Each P xs → P x
unfolding Each
each-at P [] i x within at each = absurd (omega (arith, within))
each-at P (y ∷ xs) zero x within at each = subst P (sym at) each.0
each-at P (y ∷ xs) (suc i) x within at each = each-at P xs i x (omega (arith, within)) at each.1
