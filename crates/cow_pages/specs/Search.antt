-- A search by halving.
use Rattle.std.specs.Prelude.{◌≡◌, ℕ, ◌≤◌, Bool, true, false, List, length}
use Rattle.std.specs.List.{AllWithin}

-- the cut is between these places: what stands below the first passes the test, and what stands from the second on doesn't
pub record IsBetween {A : Type 0} (before : A → Bool) (items : List A) (low high : ℕ) : Type 0 where
  pub order : low ≤ high
  pub within : high ≤ length items
  pub front : AllWithin (λ item. before item ≡ true) items 0 low
  pub back : AllWithin (λ item. before item ≡ false) items high (length items)
