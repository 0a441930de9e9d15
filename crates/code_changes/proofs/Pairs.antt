-- The pairs of two lists that differ, applied to the first, give the second.
use Rattle.std.proofs.Common.{◌≡◌, ℕ, ◌≢◌, true, false, List, [], ◌∷◌, length, map, refl, ap, ap₂, ◌∙◌, sym, inl, inr, arith, eq-eqb, ne_eqb}
use Rattle.std.proofs.lemmas.Bool.{cases_eq}
use Rattle.tree_model.specs.Places.{holds, IsBelowAll, IsIncreasing}
use Rattle.tree_model.proofs.Ordered.{holds-cons_eq, holds-cons_ne}
use Rattle.path_code.specs.declared.moves.Recode.{Recode}
use Rattle.path_code.specs.Sums.{unless}
use Rattle.code_changes.specs.Changes.{IsIn, new_if, new_code, differing}
use Rattle.code_changes.proofs.Lists.{holds-nil, IsIn-cons, map-above}

-- ---- one pair more

pub differing-same : (x y : ℕ) (xs ys : List ℕ) → x ≡ y → differing (x ∷ xs) (y ∷ ys) ≡ differing xs ys
unfolding differing unless
differing-same x y xs ys e = rw (eq-eqb x y e) refl

pub differing-other : (x y : ℕ) (xs ys : List ℕ) → x ≢ y → differing (x ∷ xs) (y ∷ ys) ≡ record { old = x; new = y } ∷ differing xs ys
unfolding differing unless
differing-other x y xs ys h = rw (ne_eqb x y h) refl

pub new_code-here : (pair : Recode) (moved : List Recode) (n : ℕ) → pair.old ≡ n → new_code (pair ∷ moved) n ≡ pair.new
unfolding new_code new_if
new_code-here pair moved n e = rw (eq-eqb pair.old n e) refl

pub new_code-past : (pair : Recode) (moved : List Recode) (n : ℕ) → pair.old ≢ n → new_code (pair ∷ moved) n ≡ new_code moved n
unfolding new_code new_if
new_code-past pair moved n h = rw (ne_eqb pair.old n h) refl

-- ---- the pairs applied

-- the first pair doesn't concern another number
pub new_code-rest : (x y n : ℕ) (xs ys : List ℕ) → x ≢ n → new_code (differing (x ∷ xs) (y ∷ ys)) n ≡ new_code (differing xs ys) n
new_code-rest x y n xs ys h =
    let pair : Recode = record { old = x; new = y } in
    elim (cases_eq x y) [
      | inl same ↦ ap (λ (moved : List Recode). new_code moved n) (differing-same x y xs ys same)
      | inr other ↦ ap (λ (moved : List Recode). new_code moved n) (differing-other x y xs ys other) ∙ new_code-past pair (differing xs ys) n h
    ]

new_code-nothing : (n : ℕ) → new_code [] n ≡ n
unfolding new_code
new_code-nothing n = refl

-- a number below all old ones stays
pub new_code-below : (n : ℕ) (xs ys : List ℕ) → IsBelowAll n xs → new_code (differing xs ys) n ≡ n
unfolding differing IsBelowAll
new_code-below n [] ys above = new_code-nothing n
new_code-below n (x ∷ xs) [] above = new_code-nothing n
new_code-below n (x ∷ xs) (y ∷ ys) above = new_code-rest x y n xs ys (omega (arith, above.0)) ∙ new_code-below n xs ys above.1

-- the first number gets the first new one
new_code-first : (x y : ℕ) (xs ys : List ℕ) → IsBelowAll x xs → new_code (differing (x ∷ xs) (y ∷ ys)) x ≡ y
new_code-first x y xs ys above =
    let pair : Recode = record { old = x; new = y } in
    elim (cases_eq x y) [
      | inl same ↦ ap (λ (moved : List Recode). new_code moved x) (differing-same x y xs ys same) ∙ new_code-below x xs ys above ∙ same
      | inr other ↦ ap (λ (moved : List Recode). new_code moved x) (differing-other x y xs ys other) ∙ new_code-here pair (differing xs ys) x refl
    ]

pub remapped : (xs ys : List ℕ) → IsIncreasing xs → length xs ≡ length ys → map (new_code (differing xs ys)) xs ≡ ys
unfolding IsIncreasing
remapped [] [] up many = refl
remapped [] (y ∷ ys) up many = absurd (omega arith)
remapped (x ∷ xs) [] up many = absurd (omega arith)
remapped (x ∷ xs) (y ∷ ys) up many =
    ap₂ (λ (z : ℕ) (zs : List ℕ). z ∷ zs) (new_code-first x y xs ys up.0) (
    map-above (new_code (differing (x ∷ xs) (y ∷ ys))) (new_code (differing xs ys)) x xs up.0 (λ n lt. new_code-rest x y n xs ys (omega arith))
    ∙ remapped xs ys up.1 (omega arith))

-- ---- the old numbers of the pairs

-- they are among the first list's
pub IsIn-differing : (n : ℕ) (xs ys : List ℕ) → IsIn n (map (λ pair. pair.old) (differing xs ys)) → IsIn n xs
unfolding differing
IsIn-differing n [] ys h = absurd (let e : false ≡ true = sym (holds-nil n) ∙ h in cc)
IsIn-differing n (x ∷ xs) [] h = absurd (let e : false ≡ true = sym (holds-nil n) ∙ h in cc)
IsIn-differing n (x ∷ xs) (y ∷ ys) h =
    let old_of = λ (pair : Recode). pair.old in
    elim (cases_eq x n) [
      | inl here ↦ holds-cons_eq n x xs here
      | inr past ↦
          let rest : IsIn n (map old_of (differing xs ys)) =
          elim (cases_eq x y) [
            | inl same ↦ ap (λ (moved : List Recode). holds n (map old_of moved)) (sym (differing-same x y xs ys same)) ∙ h
            | inr other ↦
                sym (holds-cons_ne n x (map old_of (differing xs ys)) past) ∙ ap (λ (moved : List Recode). holds n (map old_of moved)) (sym (differing-other x y xs ys other)) ∙ h
          ] in
          IsIn-cons n x xs (IsIn-differing n xs ys rest)
    ]

differing-nothing : differing [] [] ≡ []
unfolding differing
differing-nothing = refl

-- a list doesn't differ from itself
pub differing-itself : (xs : List ℕ) → differing xs xs ≡ []
differing-itself [] = differing-nothing
differing-itself (x ∷ xs) = differing-same x x xs xs refl ∙ differing-itself xs
