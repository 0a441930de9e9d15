-- Where an item stands after operations on a column, told by its rank before them, and which items stay. No body is looked at.
use Rattle.std.specs.Prelude.{ℕ, ◌-◌, Bool, true, false, not, ◌&&◌, ◌==◌, nat_lt, nat_le, List, [], ◌∷◌, take, slice_get}
use Rattle.tree_model.specs.declared.Place.{Place}
use Rattle.tree_model.specs.declared.Place.TheVariants.{Found, Gap}
use Rattle.tree_model.specs.Places.{one_if}
use Rattle.tree_model.specs.Items.{Item, one_less, change_at, live, is_dead, drop_item, is_sparse}
use Rattle.tree_model.specs.Columns.{Column, items_of, Operation, Add, Drop, Lay, apply}

-- ---- the rank after

-- one row more at a place: a new item moves those from its rank on
unfoldable pub rank_added : Place → ℕ → ℕ
rank_added (Found at) rank = rank
rank_added (Gap at) rank = one_if (nat_le at rank) rank

-- the rank at which the item of a row that came in at a place stands then
unfoldable pub rank_at : Place → ℕ
rank_at (Found at) = at
rank_at (Gap at) = at

unfoldable pub one_lower : Bool → ℕ → ℕ
one_lower true rank = rank - 1
one_lower false rank = rank

-- an item that goes moves those after it
unfoldable pub rank_gone : Bool → ℕ → ℕ → ℕ
rank_gone true at rank = one_lower (nat_lt at rank) rank
rank_gone false at rank = rank

-- where the items without rows go, as many stand before an item as were live there
unfoldable pub rank_swept : {B : Type 0} → Bool → List (Item B) → ℕ → ℕ
rank_swept true items rank = live (take rank items)
rank_swept false items rank = rank

-- whether the item that loses a row goes with it: in same-time mode, where no row has it any more
unfoldable pub is_gone : {B : Type 0} → Bool → List (Item B) → ℕ → Bool
is_gone same_time items at = same_time && is_dead (slice_get (change_at one_less items at) at)

-- one row fewer at the item of a rank, and the sweep where too few items are live
unfoldable pub rank_dropped : {B : Type 0} → Bool → ℕ → Column B → ℕ → ℕ
rank_dropped same_time at c rank = rank_swept (is_sparse c.most (drop_item same_time (items_of c) at)) (drop_item same_time (items_of c) at) (rank_gone (is_gone same_time (items_of c) at) at rank)

unfoldable pub rank_after : {B : Type 0} → Bool → Operation B → Column B → ℕ → ℕ
rank_after same_time (Add place b) c rank = rank_added place rank
rank_after same_time (Drop at) c rank = rank_dropped same_time at c rank
rank_after same_time Lay c rank = rank

unfoldable pub rank_after_all : {B : Type 0} → Bool → List (Operation B) → Column B → ℕ → ℕ
rank_after_all same_time [] c rank = rank
rank_after_all same_time (operation ∷ operations) c rank = rank_after_all same_time operations (apply same_time operation c) (rank_after same_time operation c rank)

-- ---- which items stay

unfoldable pub stays_gone : Bool → ℕ → ℕ → Bool
stays_gone true at rank = not (rank == at)
stays_gone false at rank = true

unfoldable pub stays_swept : {B : Type 0} → Bool → List (Item B) → ℕ → Bool
stays_swept true items rank = not (is_dead (slice_get items rank))
stays_swept false items rank = true

unfoldable pub stays_dropped : {B : Type 0} → Bool → ℕ → Column B → ℕ → Bool
stays_dropped same_time at c rank = stays_gone (is_gone same_time (items_of c) at) at rank && stays_swept (is_sparse c.most (drop_item same_time (items_of c) at)) (drop_item same_time (items_of c) at) (rank_gone (is_gone same_time (items_of c) at) at rank)

-- the item of a rank stays: one row more and a balanced tree take none out
unfoldable pub stays_after : {B : Type 0} → Bool → Operation B → Column B → ℕ → Bool
stays_after same_time (Add place b) c rank = true
stays_after same_time (Drop at) c rank = stays_dropped same_time at c rank
stays_after same_time Lay c rank = true

unfoldable pub stays_after_all : {B : Type 0} → Bool → List (Operation B) → Column B → ℕ → Bool
stays_after_all same_time [] c rank = true
stays_after_all same_time (operation ∷ operations) c rank = stays_after same_time operation c rank && stays_after_all same_time operations (apply same_time operation c) (rank_after same_time operation c rank)
