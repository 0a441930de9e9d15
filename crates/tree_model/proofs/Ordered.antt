-- The place of a value in an increasing list, item by item.
use Rattle.std.proofs.Common.{◌≡◌, ℕ, suc, zero, ◌+◌, ◌*◌, ◌<◌, ◌≤◌, ◌≢◌, Bool, true, false, ltb, eqb, List, [], ◌∷◌, length, get_or, insert, refl, ap, ◌∙◌, sym, subst, inl, inr, arith, lt_of_le_of_lt, lt-ltb, le-ltb, eq-eqb, ne_eqb}
use Rattle.std.proofs.lemmas.Bool.{cases_order, cases_lt, cases_Bool, cases_eq}
use Rattle.tree_model.specs.declared.Place.TheVariants.{Found, Gap}
use Rattle.tree_model.specs.Places.{one_if, below, holds, placed, place, IsBelowAll, IsIncreasing, number, Compares}
use Rattle.tree_model.specs.Trees.{IsPlaceOf}
use Rattle.tree_model.proofs.Ways.{same_from_number}

-- ---- what is below all

pub IsBelowAll-le : (v w : ℕ) (xs : List ℕ) → w ≤ v → IsBelowAll v xs → IsBelowAll w xs
unfolding IsBelowAll
IsBelowAll-le v w [] le h = tt
IsBelowAll-le v w (x ∷ xs) le h = (lt_of_le_of_lt le h.0, IsBelowAll-le v w xs le h.1)

pub IsBelowAll-at : (v : ℕ) (xs : List ℕ) (k d : ℕ) → k < length xs → IsBelowAll v xs → v < get_or xs k d
unfolding IsBelowAll
IsBelowAll-at v [] k d lt h = absurd (omega arith)
IsBelowAll-at v (x ∷ xs) zero d lt h = h.0
IsBelowAll-at v (x ∷ xs) (suc k) d lt h = IsBelowAll-at v xs k d (omega arith) h.1

below_nothing : (v : ℕ) → IsBelowAll v []
unfolding IsBelowAll
below_nothing v = tt

pub below-none : (v : ℕ) (xs : List ℕ) → IsBelowAll v xs → below v xs ≡ 0
unfolding IsBelowAll below one_if
below-none v [] h = refl
below-none v (x ∷ xs) h = let e : ltb x v ≡ false = le-ltb x v (omega arith) in rw e (below-none v xs h.1)

pub holds-none : (v : ℕ) (xs : List ℕ) → IsBelowAll v xs → holds v xs ≡ false
unfolding IsBelowAll holds
holds-none v [] h = refl
holds-none v (x ∷ xs) h = let e : eqb x v ≡ false = ne_eqb x v (omega arith) in rw e (holds-none v xs h.1)

-- ---- the first item decides

pub below-cons_lt : (v x : ℕ) (xs : List ℕ) → x < v → below v (x ∷ xs) ≡ suc (below v xs)
unfolding below one_if
below-cons_lt v x xs h = rw (lt-ltb x v h) refl

pub below-cons_le : (v x : ℕ) (xs : List ℕ) → v ≤ x → IsBelowAll x xs → below v (x ∷ xs) ≡ 0
unfolding below one_if
below-cons_le v x xs h above = rw (le-ltb x v h) (below-none v xs (IsBelowAll-le x v xs h above))

pub holds-cons_ne : (v x : ℕ) (xs : List ℕ) → x ≢ v → holds v (x ∷ xs) ≡ holds v xs
unfolding holds
holds-cons_ne v x xs h = rw (ne_eqb x v h) refl

pub holds-cons_eq : (v x : ℕ) (xs : List ℕ) → x ≡ v → holds v (x ∷ xs) ≡ true
unfolding holds
holds-cons_eq v x xs h = rw (eq-eqb x v h) refl

pub holds-cons_lt : (v x : ℕ) (xs : List ℕ) → v < x → IsBelowAll x xs → holds v (x ∷ xs) ≡ false
holds-cons_lt v x xs h above = holds-cons_ne v x xs (omega arith) ∙ holds-none v xs (IsBelowAll-le x v xs (omega arith) above)

-- ---- how many are below

pub below-le : (v : ℕ) (xs : List ℕ) → below v xs ≤ length xs
unfolding below one_if
below-le v [] = omega arith
below-le v (x ∷ xs) = let ih = below-le v xs in elim (ltb x v) as (λ b. one_if b (below v xs) ≤ suc (length xs)) [ true ↦ omega arith | false ↦ omega arith ]

-- the items before that count are smaller
pub lt_of_rank-lt-below : (v : ℕ) (xs : List ℕ) (k d : ℕ) → IsIncreasing xs → k < below v xs → get_or xs k d < v
unfolding IsIncreasing
lt_of_rank-lt-below v [] k d up h = absurd (omega (arith, below-le v []))
lt_of_rank-lt-below v (x ∷ xs) zero d up h =
    elim (cases_lt x v) [ inl lt ↦ lt | inr le ↦ absurd (omega (arith, below-cons_le v x xs le up.0)) ]
lt_of_rank-lt-below v (x ∷ xs) (suc k) d up h =
    elim (cases_lt x v) [
      | inl lt ↦ lt_of_rank-lt-below v xs k d up.1 (omega (arith, below-cons_lt v x xs lt))
      | inr le ↦ absurd (omega (arith, below-cons_le v x xs le up.0))
    ]

-- the items from that count on aren't
pub le_of_below-le-rank : (v : ℕ) (xs : List ℕ) (k d : ℕ) → IsIncreasing xs → below v xs ≤ k → k < length xs → v ≤ get_or xs k d
unfolding IsIncreasing
le_of_below-le-rank v [] k d up h within = absurd (omega arith)
le_of_below-le-rank v (x ∷ xs) zero d up h within =
    elim (cases_lt x v) [ inl lt ↦ absurd (omega (arith, below-cons_lt v x xs lt)) | inr le ↦ le ]
le_of_below-le-rank v (x ∷ xs) (suc k) d up h within =
    elim (cases_lt x v) [
      | inl lt ↦ le_of_below-le-rank v xs k d up.1 (omega (arith, below-cons_lt v x xs lt)) (omega arith)
      | inr le ↦ omega (arith, IsBelowAll-at x xs k d (omega arith) up.0)
    ]

-- a held value stands after the smaller ones
pub held_at-below : (v : ℕ) (xs : List ℕ) (d : ℕ) → IsIncreasing xs → holds v xs ≡ true → (below v xs < length xs) × (get_or xs (below v xs) d ≡ v)
unfolding IsIncreasing
held_at-below v [] d up h = absurd (let e : false ≡ true = sym (holds-none v [] (below_nothing v)) ∙ h in cc)
held_at-below v (x ∷ xs) d up h =
    elim (cases_order x v) [
      | inl same ↦ rw (below-cons_le v x xs (omega arith) up.0) (omega arith, same)
      | inr (inl lt) ↦
          let ih = held_at-below v xs d up.1 (sym (holds-cons_ne v x xs (omega arith)) ∙ h) in
          rw (below-cons_lt v x xs lt) (omega (arith, ih.0), ih.1)
      | inr (inr gt) ↦ absurd (let e : false ≡ true = sym (holds-cons_lt v x xs gt up.0) ∙ h in cc)
    ]

pub holds-at : (xs : List ℕ) (k d : ℕ) → k < length xs → holds (get_or xs k d) xs ≡ true
holds-at [] k d h = absurd (omega arith)
holds-at (x ∷ xs) zero d h = holds-cons_eq x x xs refl
holds-at (x ∷ xs) (suc k) d h =
    let ih = holds-at xs k d (omega arith) in
    elim (cases_eq x (get_or xs k d)) [
      | inl same ↦ holds-cons_eq (get_or xs k d) x xs same
      | inr other ↦ holds-cons_ne (get_or xs k d) x xs other ∙ ih
    ]

-- ---- the place

increasing_at : (xs : List ℕ) (j k d : ℕ) → IsIncreasing xs → j < k → k < length xs → get_or xs j d < get_or xs k d
unfolding IsIncreasing
increasing_at [] j k d up lt within = absurd (omega arith)
increasing_at (x ∷ xs) j zero d up lt within = absurd (omega arith)
increasing_at (x ∷ xs) zero (suc k) d up lt within = IsBelowAll-at x xs k d (omega arith) up.0
increasing_at (x ∷ xs) (suc j) (suc k) d up lt within = increasing_at xs j k d up.1 (omega arith) (omega arith)

compares : (item v rank at : ℕ) → (rank < at → item < v) → (rank ≡ at → item ≡ v) → (at < rank → v < item) → Compares item v rank at
compares item v rank at lower equal higher =
    elim (cases_order rank at) [
      | inl same ↦ let e = equal same in record { lower = (λ h. omega arith, lower); equal = (λ h. omega arith, equal); higher = (λ h. omega arith, higher) }
      | inr (inl lt) ↦ let e = lower lt in record { lower = (λ h. omega arith, lower); equal = (λ h. absurd (omega arith), equal); higher = (λ h. absurd (omega arith), higher) }
      | inr (inr gt) ↦ let e = higher gt in record { lower = (λ h. absurd (omega arith), lower); equal = (λ h. absurd (omega arith), equal); higher = (λ h. omega arith, higher) }
    ]

compares_found : (xs : List ℕ) (v k d : ℕ) → IsIncreasing xs → k < length xs → holds v xs ≡ true → Compares (get_or xs k d) v (number (Found k)) (number (Found (below v xs)))
unfolding number
compares_found xs v k d up h held =
    let at = held_at-below v xs d up held in
    compares (get_or xs k d) v (2 * k + 1) (2 * below v xs + 1)
    (λ lt. lt_of_rank-lt-below v xs k d up (omega arith))
    (λ same. let e : k ≡ below v xs = omega arith in ap (λ i. get_or xs i d) e ∙ at.1)
    (λ gt. omega (arith, increasing_at xs (below v xs) k d up (omega arith) h, at.1))

compares_gap : (xs : List ℕ) (v k d : ℕ) → IsIncreasing xs → k < length xs → holds v xs ≡ false → Compares (get_or xs k d) v (number (Found k)) (number (Gap (below v xs)))
unfolding number
compares_gap xs v k d up h free =
    compares (get_or xs k d) v (2 * k + 1) (2 * below v xs)
    (λ lt. lt_of_rank-lt-below v xs k d up (omega arith))
    (λ same. absurd (omega arith))
    (λ gt.
    let other : get_or xs k d ≢ v = λ e. let both : true ≡ false = sym (holds-at xs k d h) ∙ ap (λ w. holds w xs) e ∙ free in cc in
    omega (arith, le_of_below-le-rank v xs k d up (omega arith) h))

-- the items of an increasing list stand to v as their places stand to the place of v
pub place_compares : (xs : List ℕ) (v k d : ℕ) → IsIncreasing xs → k < length xs → Compares (get_or xs k d) v (number (Found k)) (number (place xs v))
unfolding place placed
place_compares xs v k d up h =
    elim (cases_Bool (holds v xs)) [
      | inl held ↦ rw held (compares_found xs v k d up h held)
      | inr free ↦ rw free (compares_gap xs v k d up h free)
    ]

found_of_placed : (b : Bool) (n m : ℕ) → placed b n ≡ Found m → (n ≡ m) × (b ≡ true)
unfolding placed
found_of_placed true n m e = (cc, refl)
found_of_placed false n m e = cc

gap_of_placed : (b : Bool) (n m : ℕ) → placed b n ≡ Gap m → (n ≡ m) × (b ≡ false)
unfolding placed
gap_of_placed true n m e = cc
gap_of_placed false n m e = (cc, refl)

pub found_of_place : (xs : List ℕ) (v k : ℕ) → place xs v ≡ Found k → (below v xs ≡ k) × (holds v xs ≡ true)
unfolding place
found_of_place xs v k e = found_of_placed (holds v xs) (below v xs) k e

pub gap_of_place : (xs : List ℕ) (v k : ℕ) → place xs v ≡ Gap k → (below v xs ≡ k) × (holds v xs ≡ false)
unfolding place
gap_of_place xs v k e = gap_of_placed (holds v xs) (below v xs) k e

pub place-IsFound : (xs : List ℕ) (v k d : ℕ) → IsIncreasing xs → k < length xs → get_or xs k d ≡ v → place xs v ≡ Found k
place-IsFound xs v k d up h e = sym (same_from_number (Found k) (place xs v) ((place_compares xs v k d up h).equal.0 e))

pub place-IsGap : (xs : List ℕ) (v k d : ℕ) → IsIncreasing xs → k ≤ length xs → ((i : ℕ) → i < k → get_or xs i d < v) → (k < length xs → v < get_or xs k d) → place xs v ≡ Gap k
unfolding place placed
place-IsGap xs v k d up h before after =
    let rank : below v xs ≡ k = elim (cases_order (below v xs) k) [
      | inl same ↦ same
      | inr (inl lt) ↦ absurd (omega (arith, before (below v xs) lt, le_of_below-le-rank v xs (below v xs) d up (omega arith) (omega arith)))
      | inr (inr gt) ↦ absurd (omega (arith, below-le v xs, after (omega (arith, below-le v xs)), lt_of_rank-lt-below v xs k d up gt))
    ] in
    elim (cases_Bool (holds v xs)) [
      | inl held ↦
          let at = held_at-below v xs d up held in
          let here : get_or xs k d ≡ v = ap (λ i. get_or xs i d) (sym rank) ∙ at.1 in
          absurd (omega (arith, after (omega (arith, at.0)), here))
      | inr free ↦ rw free (ap Gap rank)
    ]

pub found_within : (xs : List ℕ) (v k d : ℕ) → IsIncreasing xs → place xs v ≡ Found k → (k < length xs) × (get_or xs k d ≡ v)
found_within xs v k d up e =
    let found = found_of_place xs v k e in
    let at = held_at-below v xs d up found.1 in
    (omega (arith, found.0, at.0), ap (λ i. get_or xs i d) (sym found.0) ∙ at.1)

pub gap_within : (xs : List ℕ) (v k : ℕ) → place xs v ≡ Gap k → k ≤ length xs
gap_within xs v k e = omega (arith, (gap_of_place xs v k e).0, below-le v xs)

-- the place of a value is one of the list's places
pub IsPlaceOf-place : (xs : List ℕ) (v : ℕ) → IsIncreasing xs → IsPlaceOf (length xs) (place xs v)
unfolding IsPlaceOf place placed
IsPlaceOf-place xs v up =
    elim (cases_Bool (holds v xs)) [
      | inl held ↦ rw held ((held_at-below v xs 0 up held).0)
      | inr free ↦ rw free (below-le v xs)
    ]

-- ---- a new value at its gap

pub IsBelowAll-insert : (w : ℕ) (xs : List ℕ) (i v : ℕ) → w < v → IsBelowAll w xs → IsBelowAll w (insert xs i v)
unfolding IsBelowAll
IsBelowAll-insert w xs zero v lt h = (lt, h)
IsBelowAll-insert w [] (suc i) v lt h = (lt, h)
IsBelowAll-insert w (x ∷ xs) (suc i) v lt h = (h.0, IsBelowAll-insert w xs i v lt h.1)

insert-below : (xs : List ℕ) (v : ℕ) → IsIncreasing xs → holds v xs ≡ false → IsIncreasing (insert xs (below v xs) v)
unfolding IsIncreasing IsBelowAll
insert-below [] v up free = rw (below-none v [] tt) (tt, tt)
insert-below (x ∷ xs) v up free =
    elim (cases_order x v) [
      | inl same ↦ absurd (let e : true ≡ false = sym (holds-cons_eq v x xs same) ∙ free in cc)
      | inr (inl lt) ↦
          let ih = insert-below xs v up.1 (sym (holds-cons_ne v x xs (omega arith)) ∙ free) in
          rw (below-cons_lt v x xs lt) (IsBelowAll-insert x xs (below v xs) v lt up.0, ih)
      | inr (inr gt) ↦ rw (below-cons_le v x xs (omega arith) up.0) ((gt, IsBelowAll-le x v xs (omega arith) up.0), up)
    ]

pub IsIncreasing-insert : (xs : List ℕ) (v k : ℕ) → IsIncreasing xs → place xs v ≡ Gap k → IsIncreasing (insert xs k v)
IsIncreasing-insert xs v k up e =
    let gap = gap_of_place xs v k e in
    subst (λ i. IsIncreasing (insert xs i v)) gap.0 (insert-below xs v up gap.1)

pub IsIncreasing-nil : IsIncreasing []
unfolding IsIncreasing
IsIncreasing-nil = tt
