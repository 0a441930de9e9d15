-- Increasing lists of numbers: their members, two with the same members, and a number put into one.
use Rattle.std.proofs.Common.{◌≡◌, ℕ, ◌+◌, suc, zero, ◌<◌, ◌≤◌, ◌≢◌, true, false, List, [], ◌∷◌, map, refl, ap, ap₂, ◌∙◌, sym, subst, inl, inr, arith}
use Rattle.std.specs.List.{range_with_len}
use Rattle.std.proofs.lemmas.Bool.{cases_order, cases_eq, cases_Bool}
use Rattle.tree_model.specs.Places.{below, holds, placed, place, IsBelowAll, IsIncreasing}
use Rattle.tree_model.proofs.Ordered.{below-none, holds-none, below-cons_lt, holds-cons_ne, holds-cons_eq, holds-cons_lt}
use Rattle.code_changes.specs.Changes.{IsIn, put_at_place, put, put_all}

-- ---- members

pub holds-nil : (n : ℕ) → holds n [] ≡ false
unfolding holds
holds-nil n = refl

-- what is in a list is in one with another number in front
pub IsIn-cons : (n x : ℕ) (xs : List ℕ) → IsIn n xs → IsIn n (x ∷ xs)
IsIn-cons n x xs h = elim (cases_eq x n) [ inl same ↦ holds-cons_eq n x xs same | inr other ↦ holds-cons_ne n x xs other ∙ h ]

-- what is in a list is above what is below all of it
pub lt_of_IsIn : (v n : ℕ) (xs : List ℕ) → IsBelowAll v xs → IsIn n xs → v < n
unfolding IsBelowAll
lt_of_IsIn v n [] above h = absurd (let e : false ≡ true = sym (holds-nil n) ∙ h in cc)
lt_of_IsIn v n (x ∷ xs) above h =
    elim (cases_eq x n) [
      | inl same ↦ omega (arith, above.0)
      | inr other ↦ lt_of_IsIn v n xs above.1 (sym (holds-cons_ne n x xs other) ∙ h)
    ]

-- two increasing lists with the same members are one
pub same_members : (xs ys : List ℕ) → IsIncreasing xs → IsIncreasing ys → ((n : ℕ) → holds n xs ≡ holds n ys) → xs ≡ ys
unfolding IsIncreasing
same_members [] [] up_x up_y same = refl
same_members [] (y ∷ ys) up_x up_y same = absurd (let e : false ≡ true = sym (holds-nil y) ∙ same y ∙ holds-cons_eq y y ys refl in cc)
same_members (x ∷ xs) [] up_x up_y same = absurd (let e : true ≡ false = sym (holds-cons_eq x x xs refl) ∙ same x ∙ holds-nil x in cc)
same_members (x ∷ xs) (y ∷ ys) up_x up_y same =
    elim (cases_order x y) [
      | inl e ↦
          let above : IsBelowAll x ys = subst (λ (z : ℕ). IsBelowAll z ys) (sym e) up_y.0 in
          ap₂ (λ (z : ℕ) (zs : List ℕ). z ∷ zs) e (same_members xs ys up_x.1 up_y.1 (λ n. elim (cases_eq x n) [
            | inl here ↦
                let none_x : holds n xs ≡ false = ap (λ (z : ℕ). holds z xs) (sym here) ∙ holds-none x xs up_x.0 in
                let none_y : holds n ys ≡ false = ap (λ (z : ℕ). holds z ys) (sym here) ∙ holds-none x ys above in
                none_x ∙ sym none_y
            | inr other ↦
                let other_y : y ≢ n = (λ f. other (e ∙ f)) in
                sym (holds-cons_ne n x xs other) ∙ same n ∙ holds-cons_ne n y ys other_y
          ]))
      | inr (inl lt) ↦ absurd (let f : true ≡ false = sym (holds-cons_eq x x xs refl) ∙ same x ∙ holds-cons_lt x y ys lt up_y.0 in cc)
      | inr (inr gt) ↦ absurd (let f : false ≡ true = sym (holds-cons_lt y x xs gt up_x.0) ∙ same y ∙ holds-cons_eq y y ys refl in cc)
    ]

-- functions that agree above a number agree on a list above it
pub map-above : {A : Type 0} (f g : ℕ → A) (v : ℕ) (xs : List ℕ) → IsBelowAll v xs → ((n : ℕ) → v < n → f n ≡ g n) → map f xs ≡ map g xs
unfolding IsBelowAll
map-above f g v [] above same = refl
map-above f g v (x ∷ xs) above same = ap₂ (λ (y : _) (ys : List _). y ∷ ys) (same x above.0) (map-above f g v xs above.1 same)

-- ---- ranks

pub ranks-above : (v first count : ℕ) → v < first → IsBelowAll v (range_with_len first count)
unfolding IsBelowAll
ranks-above v first zero lt = tt
ranks-above v first (suc count) lt = (lt, ranks-above v (first + 1) count (omega arith))

pub ranks-up : (first count : ℕ) → IsIncreasing (range_with_len first count)
unfolding IsIncreasing
ranks-up first zero = tt
ranks-up first (suc count) = (ranks-above first (first + 1) count (omega arith), ranks-up (first + 1) count)

pub holds-ranks : (k first count : ℕ) → first ≤ k → k < first + count → holds k (range_with_len first count) ≡ true
holds-ranks k first zero le lt = absurd (omega arith)
holds-ranks k first (suc count) le lt =
    elim (cases_eq first k) [
      | inl here ↦ holds-cons_eq k first (range_with_len (first + 1) count) here
      | inr other ↦ holds-cons_ne k first (range_with_len (first + 1) count) other ∙ holds-ranks k (first + 1) count (omega arith) (omega arith)
    ]

-- ---- a number put into an increasing list

put-front_from : (n : ℕ) (xs : List ℕ) → holds n xs ≡ false → below n xs ≡ 0 → put n xs ≡ n ∷ xs
unfolding put put_at_place place placed
put-front_from n xs free none = rw (free, none) refl

pub put-front : (n : ℕ) (xs : List ℕ) → IsBelowAll n xs → put n xs ≡ n ∷ xs
put-front n xs above = put-front_from n xs (holds-none n xs above) (below-none n xs above)

put-after_held : (x n : ℕ) (xs : List ℕ) → x < n → holds n xs ≡ true → put n (x ∷ xs) ≡ x ∷ put n xs
unfolding put put_at_place place placed
put-after_held x n xs lt held = rw (holds-cons_ne n x xs (omega arith), held) refl

put-after_free : (x n : ℕ) (xs : List ℕ) → x < n → holds n xs ≡ false → put n (x ∷ xs) ≡ x ∷ put n xs
unfolding put put_at_place place placed
put-after_free x n xs lt free = rw (holds-cons_ne n x xs (omega arith), free, below-cons_lt n x xs lt) refl

pub put-after : (x n : ℕ) (xs : List ℕ) → x < n → put n (x ∷ xs) ≡ x ∷ put n xs
put-after x n xs lt = elim (cases_Bool (holds n xs)) [ inl held ↦ put-after_held x n xs lt held | inr free ↦ put-after_free x n xs lt free ]

pub put_all-after : (x : ℕ) (ns xs : List ℕ) → IsBelowAll x ns → put_all ns (x ∷ xs) ≡ x ∷ put_all ns xs
unfolding put_all IsBelowAll
put_all-after x [] xs above = refl
put_all-after x (n ∷ ns) xs above = ap (put n) (put_all-after x ns xs above.1) ∙ put-after x n (put_all ns xs) above.0
