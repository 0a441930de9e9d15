-- What tests ask of places and numbers before they call.
use Rattle.std.proofs.Common.{◌≡◌, ℕ, suc, zero, ◌+◌, ◌<◌, ◌≤◌, Bool, true, false, ◌||◌, Option, Some, None, List, [], ◌∷◌, length, get_or, take, refl, ap, ◌∙◌, sym, subst, inl, inr, arith, eqb, eq-eqb}
use Rattle.std.proofs.lemmas.Bool.{cases_eq}
use Rattle.std.specs.Option.{IsSome}
use Rattle.std.specs.Prelude.{MatchOption, slice_get}
use Rattle.std.proofs.lemmas.Option.{get_or_from_slice_get, slice_get_within}
use Rattle.mope_base.specs.declared.body.Body.{Body}
use Rattle.tree_model.specs.declared.Place.{Place}
use Rattle.tree_model.specs.Trees.{size, IsPlaceOf}
use Rattle.tree_model.specs.Places.{IsIncreasing, IsBelowAll, holds}
use Rattle.tree_model.specs.Columns.{Column}
use Rattle.tree_model.proofs.CarriedRanks.{false_is_true}
use Rattle.tree_model.proofs.Ordered.{holds-at}
use Rattle.table_model.specs.Soundness.{column_at}
use Rattle.table_model.specs.Fitting.{AllAmong, AllPlaced}
use Rattle.enc_table.specs.Fields.{place_at}

pub placed-each : (cs : List (Column Body)) (places : List Place) → length places ≡ length cs → ((i : ℕ) → i < length cs → IsPlaceOf (size (column_at cs i).tree) (place_at places i)) → AllPlaced cs places
unfolding AllPlaced column_at
placed-each [] [] e each = tt
placed-each [] (p ∷ places) e each = absurd (omega (arith, e))
placed-each (c ∷ cs) [] e each = absurd (omega (arith, e))
placed-each (c ∷ cs) (p ∷ places) e each = (each 0 (omega arith), placed-each cs places (omega (arith, e)) (λ i h. each (suc i) (omega (arith, h))))

pub among-each : (numbers xs : List ℕ) → ((i : ℕ) → i < length xs → holds (get_or xs i 0) numbers ≡ true) → AllAmong numbers xs
unfolding AllAmong
among-each numbers [] each = tt
among-each numbers (x ∷ xs) each = (each 0 (omega arith), among-each numbers xs (λ i h. each (suc i) (omega (arith, h))))

pub found-holds : (position number : ℕ) (numbers : List ℕ) → slice_get numbers position ≡ Some number → holds number numbers ≡ true
found-holds position number numbers there =
    subst (λ (n : ℕ). holds n numbers ≡ true) (get_or_from_slice_get numbers position number 0 there) (holds-at numbers position 0 (slice_get_within numbers position number there))

weaken : (x y : ℕ) (xs : List ℕ) → x < y → IsBelowAll y xs → IsBelowAll x xs
unfolding IsBelowAll
weaken x y [] h below = tt
weaken x y (z ∷ xs) h below = (omega (arith, h, below.0), weaken x y xs h below.1)

pub rising : (xs : List ℕ) → ((k : ℕ) → suc k < length xs → get_or xs k 0 < get_or xs (suc k) 0) → IsIncreasing xs
unfolding IsIncreasing IsBelowAll
rising [] each = tt
rising (x ∷ []) each = (tt, tt)
rising (x ∷ y ∷ xs) each =
    let more : IsIncreasing (y ∷ xs) = rising (y ∷ xs) (λ k h. each (suc k) (omega (arith, h))) in
    let less : x < y = each 0 (omega arith) in
    ((less, weaken x y xs less more.0), more)
