-- What a list of counts takes of a list and what it leaves of it, where the list increases.
use Rattle.std.proofs.Common.{◌≡◌, ℕ, suc, zero, true, false, List, [], ◌∷◌, length, refl, ap, ◌∙◌, sym, inl, inr, arith}
use Rattle.std.proofs.lemmas.Bool.{cases_eq}
use Rattle.tree_model.specs.Places.{holds, IsBelowAll, IsIncreasing}
use Rattle.tree_model.proofs.Ordered.{holds-none, holds-cons_eq, holds-cons_ne}
pub use Rattle.tree_model.proofs.TalliedRows.{IsBelowAll-with_rows as IsBelowAll-with, IsIncreasing-with_rows as IsIncreasing-with, map-with_rows as map-with}
use Rattle.code_changes.specs.Changes.{IsIn, put, put_all, with_rows, without_rows}
use Rattle.code_changes.proofs.Lists.{holds-nil, IsIn-cons, lt_of_IsIn, put-front, put_all-after}

-- ---- both are parts of the list

pub IsBelowAll-without : (v : ℕ) (counts xs : List ℕ) → IsBelowAll v xs → IsBelowAll v (without_rows counts xs)
unfolding IsBelowAll without_rows
IsBelowAll-without v [] xs above = tt
IsBelowAll-without v (count ∷ counts) [] above = tt
IsBelowAll-without v (zero ∷ counts) (x ∷ xs) above = (above.0, IsBelowAll-without v counts xs above.1)
IsBelowAll-without v (suc count ∷ counts) (x ∷ xs) above = IsBelowAll-without v counts xs above.1

none_in : {P : Type 0} (n : ℕ) → IsIn n [] → P
none_in n h = absurd (let e : false ≡ true = sym (holds-nil n) ∙ h in cc)

-- a member of a list with a number in front, where it isn't that number
pub IsIn-rest : (n x : ℕ) (xs : List ℕ) → (x ≡ n → ⊥) → IsIn n (x ∷ xs) → IsIn n xs
IsIn-rest n x xs other h = sym (holds-cons_ne n x xs other) ∙ h

pub IsIn-with : (n : ℕ) (counts xs : List ℕ) → IsIn n (with_rows counts xs) → IsIn n xs
unfolding with_rows
IsIn-with n [] xs h = none_in n h
IsIn-with n (count ∷ counts) [] h = none_in n h
IsIn-with n (zero ∷ counts) (x ∷ xs) h = IsIn-cons n x xs (IsIn-with n counts xs h)
IsIn-with n (suc count ∷ counts) (x ∷ xs) h =
    elim (cases_eq x n) [
      | inl here ↦ holds-cons_eq n x xs here
      | inr other ↦ IsIn-cons n x xs (IsIn-with n counts xs (IsIn-rest n x (with_rows counts xs) other h))
    ]

pub IsIn-without : (n : ℕ) (counts xs : List ℕ) → IsIn n (without_rows counts xs) → IsIn n xs
unfolding without_rows
IsIn-without n [] xs h = none_in n h
IsIn-without n (count ∷ counts) [] h = none_in n h
IsIn-without n (suc count ∷ counts) (x ∷ xs) h = IsIn-cons n x xs (IsIn-without n counts xs h)
IsIn-without n (zero ∷ counts) (x ∷ xs) h =
    elim (cases_eq x n) [
      | inl here ↦ holds-cons_eq n x xs here
      | inr other ↦ IsIn-cons n x xs (IsIn-without n counts xs (IsIn-rest n x (without_rows counts xs) other h))
    ]

-- ---- they are apart, and make up the list

not_in : (n x : ℕ) (counts xs : List ℕ) → x ≡ n → IsBelowAll x xs → holds n (with_rows counts xs) ≡ false
not_in n x counts xs here above = ap (λ (m : ℕ). holds m (with_rows counts xs)) (sym here) ∙ holds-none x (with_rows counts xs) (IsBelowAll-with x counts xs above)

pub with-apart : (n : ℕ) (counts xs : List ℕ) → IsIncreasing xs → IsIn n (without_rows counts xs) → holds n (with_rows counts xs) ≡ false
unfolding IsIncreasing with_rows without_rows
with-apart n [] xs up h = none_in n h
with-apart n (count ∷ counts) [] up h = none_in n h
with-apart n (zero ∷ counts) (x ∷ xs) up h =
    elim (cases_eq x n) [
      | inl here ↦ not_in n x counts xs here up.0
      | inr other ↦ with-apart n counts xs up.1 (IsIn-rest n x (without_rows counts xs) other h)
    ]
with-apart n (suc count ∷ counts) (x ∷ xs) up h =
    let after = lt_of_IsIn x n xs up.0 (IsIn-without n counts xs h) in
    holds-cons_ne n x (with_rows counts xs) (λ e. omega arith) ∙ with-apart n counts xs up.1 h

pub put_all-without : (counts xs : List ℕ) → IsIncreasing xs → length counts ≡ length xs → put_all (without_rows counts xs) (with_rows counts xs) ≡ xs
unfolding IsIncreasing with_rows without_rows put_all
put_all-without [] [] up many = refl
put_all-without [] (x ∷ xs) up many = absurd (omega arith)
put_all-without (count ∷ counts) [] up many = absurd (omega arith)
put_all-without (zero ∷ counts) (x ∷ xs) up many = ap (put x) (put_all-without counts xs up.1 (omega arith)) ∙ put-front x xs up.0
put_all-without (suc count ∷ counts) (x ∷ xs) up many =
    put_all-after x (without_rows counts xs) (with_rows counts xs) (IsBelowAll-without x counts xs up.0)
    ∙ ap (λ (ys : List ℕ). x ∷ ys) (put_all-without counts xs up.1 (omega arith))
