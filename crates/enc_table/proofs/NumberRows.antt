-- Where a number stands among increasing ones.
use Rattle.std.proofs.Common.{◌≡◌, ◌≢◌, ℕ, suc, zero, ◌<◌, ◌≤◌, true, false, ltb, List, [], ◌∷◌, length, get_or, refl, ap, ◌∙◌, sym, subst, Some, inl, inr, arith, lt-ltb}
use Rattle.std.proofs.lemmas.Bool.{cases_lt, cases_Bool, ltb-true}
use Rattle.std.proofs.lemmas.Option.{slice_get-get_or, slice_get_within, get_or_from_slice_get}
use Rattle.std.specs.List.{slice_get}
use Rattle.std.specs.List.Sorted.{IsPartitionPoint, IsPartitionedBy}
use Rattle.tree_model.specs.Places.{below, holds, IsIncreasing}
use Rattle.tree_model.proofs.Ordered.{IsBelowAll-at, held_at-below, holds-at}
use Rattle.code_changes.proofs.Orders.{IsIncreasing-rest, IsBelowAll-first}

pub rises_at : (xs : List ℕ) (i j d : ℕ) → IsIncreasing xs → i ≤ j → j < length xs → get_or xs i d ≤ get_or xs j d
rises_at [] i j d rise le within = absurd (omega (arith, within))
rises_at (x ∷ xs) zero zero d rise le within = omega arith
rises_at (x ∷ xs) zero (suc j) d rise le within = omega (arith, IsBelowAll-at x xs j d (omega (arith, within)) (IsBelowAll-first x xs rise))
rises_at (x ∷ xs) (suc i) zero d rise le within = absurd (omega (arith, le))
rises_at (x ∷ xs) (suc i) (suc j) d rise le within = rises_at xs i j d (IsIncreasing-rest x xs rise) (omega (arith, le)) (omega (arith, within))

pub rises_above : (xs : List ℕ) (i j d : ℕ) → IsIncreasing xs → i < j → j < length xs → get_or xs i d < get_or xs j d
rises_above [] i j d rise lt within = absurd (omega (arith, within))
rises_above (x ∷ xs) i zero d rise lt within = absurd (omega (arith, lt))
rises_above (x ∷ xs) zero (suc j) d rise lt within = IsBelowAll-at x xs j d (omega (arith, within)) (IsBelowAll-first x xs rise)
rises_above (x ∷ xs) (suc i) (suc j) d rise lt within = rises_above xs i j d (IsIncreasing-rest x xs rise) (omega (arith, lt)) (omega (arith, within))

pub parted_numbers : (xs : List ℕ) (number : ℕ) → IsIncreasing xs → IsPartitionedBy (λ x. ltb x number) xs
parted_numbers xs number rise = λ i j d le within h.
    let lt = ltb-true (get_or xs j d) number h in let up = rises_at xs i j d rise le within in lt-ltb (get_or xs i d) number (omega (arith, lt, up))

-- what is held stands where the smaller numbers end
pub stands_at_point : (xs : List ℕ) (number point : ℕ) → IsIncreasing xs → point ≤ length xs → IsPartitionPoint (λ x. ltb x number ≡ true) (λ x. ltb x number ≡ false) xs point → holds number xs ≡ true → slice_get xs point ≡ Some number
stands_at_point xs number point rise le parts held =
    let at = held_at-below number xs 0 rise held in
    let place = below number xs in
    elim (cases_lt place point) [
      | inl front ↦ absurd (let less = ltb-true (get_or xs place 0) number (parts.0 place 0 (omega arith) front) in omega (arith, less, at.1))
      | inr back ↦ elim (cases_lt point place) [
        | inl before ↦ absurd (
            let less = rises_above xs point place 0 rise before at.0 in
            let yes = lt-ltb (get_or xs point 0) number (omega (arith, less, at.1)) in
            let not = parts.1 point 0 (omega arith) (omega (arith, before, at.0)) in
            let clash : true ≡ false = sym yes ∙ not in cc)
        | inr here ↦ (let same : place ≡ point = omega (arith, back, here) in
            subst (λ (k : ℕ). slice_get xs k ≡ Some number) same (slice_get-get_or xs place 0 at.0 ∙ ap (λ (x : ℕ). Some x) at.1))
      ]
    ]

pub absent_at_point : (xs : List ℕ) (number point : ℕ) → IsIncreasing xs → point ≤ length xs → IsPartitionPoint (λ x. ltb x number ≡ true) (λ x. ltb x number ≡ false) xs point → slice_get xs point ≢ Some number → holds number xs ≡ false
absent_at_point xs number point rise le parts none =
    elim (cases_Bool (holds number xs)) [
      | inl held ↦ absurd (none (stands_at_point xs number point rise le parts held))
      | inr gone ↦ gone
    ]

-- a number that stands somewhere is held
pub held_of_read : (xs : List ℕ) (place number : ℕ) → slice_get xs place ≡ Some number → holds number xs ≡ true
held_of_read xs place number read =
    subst (λ (x : ℕ). holds x xs ≡ true) (get_or_from_slice_get xs place number 0 read) (holds-at xs place 0 (slice_get_within xs place number read))
