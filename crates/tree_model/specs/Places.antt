-- The place of a value in an increasing list, and the places in their order.
use Rattle.std.specs.Prelude.{◌≡◌, ◌↔◌, ℕ, suc, ◌+◌, ◌*◌, ◌<◌, Bool, true, false, ◌||◌, ◌==◌, nat_lt, List, [], ◌∷◌}
use Rattle.tree_model.specs.declared.Place.{Place}
use Rattle.tree_model.specs.declared.Place.TheVariants.{Found, Gap}

unfoldable pub one_if : Bool → ℕ → ℕ
one_if true n = suc n
one_if false n = n

-- how many are smaller
unfoldable pub below : ℕ → List ℕ → ℕ
below v [] = 0
below v (x ∷ xs) = one_if (nat_lt x v) (below v xs)

-- whether it is one of them
unfoldable pub holds : ℕ → List ℕ → Bool
holds v [] = false
holds v (x ∷ xs) = (x == v) || holds v xs

unfoldable pub placed : Bool → ℕ → Place
placed true rank = Found rank
placed false rank = Gap rank

-- the place of v in an increasing list: found at its rank, or else the gap after the smaller values
unfoldable pub place : List ℕ → ℕ → Place
place xs v = placed (holds v xs) (below v xs)

-- v is smaller than each of them
unfoldable pub IsBelowAll : ℕ → List ℕ → Type 0
IsBelowAll v [] = Unit {0}
IsBelowAll v (x ∷ xs) = (v < x) × IsBelowAll v xs

-- each is smaller than those after it
unfoldable pub IsIncreasing : List ℕ → Type 0
IsIncreasing [] = Unit {0}
IsIncreasing (x ∷ xs) = IsBelowAll x xs × IsIncreasing xs

-- the places from left to right, counted from 0: gap 0, item 0, gap 1, item 1, and so on
unfoldable pub number : Place → ℕ
number (Found rank) = 2 * rank + 1
number (Gap rank) = 2 * rank

-- a rank's number is below, at or above another exactly as its item is below, equal to or above a value
pub record Compares (item v rank at : ℕ) : Type 0 where
  pub lower : (item < v) ↔ (rank < at)
  pub equal : (item ≡ v) ↔ (rank ≡ at)
  pub higher : (v < item) ↔ (at < rank)
