-- The sum of a list of operations: which item of the column before each item of the column after it comes from.
use Rattle.std.specs.Prelude.{ℕ, suc, ◌+◌, ◌<◌, ◌≤◌, Bool, List, [], ◌∷◌, map, get_or, Option, Some, None}
use Rattle.tree_model.specs.Trees.{Tree, leaf, node, size}
use Rattle.tree_model.specs.Items.{Item}
use Rattle.tree_model.specs.Columns.{Column, Operation, items_of, apply_all, map_operation}

unfoldable pub bodies : {B : Type 0} → List (Item B) → List B
bodies items = map (λ item. item.body) items

unfoldable pub tag : {B : Type 0} → ℕ → Item B → Item (Option ℕ)
tag rank item = record { body = Some rank; count = item.count }

-- the tree with its ranks, from a number on, in place of the bodies
unfoldable pub tagged : {B : Type 0} → ℕ → Tree (Item B) → Tree (Item (Option ℕ))
tagged first leaf = leaf
tagged first (node l x r) = node (tagged first l) (tag (first + size l) x) (tagged (suc (first + size l)) r)

unfoldable pub tagged_column : {B : Type 0} → Column B → Column (Option ℕ)
tagged_column c = record { tree = tagged 0 c.tree; most = c.most }

-- the same operations, whose new items come from none
unfoldable pub blank : {B : Type 0} → List (Operation B) → List (Operation (Option ℕ))
blank operations = map (map_operation (λ b. None)) operations

-- for each rank after the operations the rank before them of the same item, and None for a new one
unfoldable pub origins : {B : Type 0} → Bool → List (Operation B) → Column B → List (Option ℕ)
origins same_time operations c = bodies (items_of (apply_all same_time (blank operations) (tagged_column c)))

unfoldable pub through : List (Option ℕ) → Option ℕ → Option ℕ
through earlier None = None
through earlier (Some rank) = get_or earlier rank None

-- origins one after the other: an item comes from where the item that it comes from came from
unfoldable pub composed : List (Option ℕ) → List (Option ℕ) → List (Option ℕ)
composed earlier later = map (through earlier) later

-- the items that come from some rank come from increasing ranks, from `low` on and below `high`
unfoldable pub IsRising : ℕ → ℕ → List (Option ℕ) → Type 0
IsRising low high [] = Unit {0}
IsRising low high (None ∷ from) = IsRising low high from
IsRising low high (Some rank ∷ from) = (low ≤ rank) × (rank < high) × IsRising (suc rank) high from
