-- The items of a column by their ranks, and what the operations on a column do to the list of them.
use Rattle.std.specs.Prelude.{ℕ, suc, zero, ◌-◌, ◌*◌, ◌<◌, Bool, true, false, not, ◌&&◌, nat_lt, List, [], ◌∷◌, length, map, filter, insert, remove, slice_get, Option, Some, None}
use Rattle.tree_model.specs.declared.Place.{Place}
use Rattle.tree_model.specs.declared.Place.TheVariants.{Found, Gap}

-- a body, and how many rows have it
pub record Item (B : Type 0) : Type 0 where
  pub body : B
  pub count : ℕ

unfoldable pub new_item : {B : Type 0} → B → Item B
new_item b = record { body = b; count = 1 }

unfoldable pub one_more : {B : Type 0} → Item B → Item B
one_more item = record { body = item.body; count = suc item.count }

-- the same item with another body
unfoldable pub map_item : {B C : Type 0} → (B → C) → Item B → Item C
map_item f item = record { body = f item.body; count = item.count }

-- the values of the items, where v tells the value of a body
unfoldable pub values : {B : Type 0} → (B → ℕ) → List (Item B) → List ℕ
values v items = map (λ item. v item.body) items

-- the list with the item of a rank changed
unfoldable pub change_at : {A : Type 0} → (A → A) → List A → ℕ → List A
change_at f [] rank = []
change_at f (x ∷ xs) zero = f x ∷ xs
change_at f (x ∷ xs) (suc rank) = x ∷ change_at f xs rank

-- one row more at a place: a found item's count rises and its body stays; a gap gets a new item with this body
unfoldable pub add_item : {B : Type 0} → Place → B → List (Item B) → List (Item B)
add_item (Found rank) b items = change_at one_more items rank
add_item (Gap rank) b items = insert items rank (new_item b)

unfoldable pub one_less : {B : Type 0} → Item B → Item B
one_less item = record { body = item.body; count = item.count - 1 }

unfoldable pub has_rows : {B : Type 0} → Item B → Bool
has_rows item = nat_lt 0 item.count

-- the items that some row has
unfoldable pub live_items : {B : Type 0} → List (Item B) → List (Item B)
live_items items = filter has_rows items

unfoldable pub live : {B : Type 0} → List (Item B) → ℕ
live items = length (live_items items)

-- whether an item is there and no row has it
unfoldable pub is_dead : {B : Type 0} → Option (Item B) → Bool
is_dead None = false
is_dead (Some item) = not (has_rows item)

unfoldable pub gone : {A : Type 0} → Bool → List A → ℕ → List A
gone true xs rank = remove xs rank
gone false xs rank = xs

-- one row fewer at the item of a rank; in same-time mode an item that no row has any more goes
unfoldable pub drop_item : {B : Type 0} → Bool → List (Item B) → ℕ → List (Item B)
drop_item same_time items rank = gone (same_time && is_dead (slice_get (change_at one_less items rank) rank)) (change_at one_less items rank) rank

-- whether so few items are live that the tree becomes the balanced tree of those: 3 * live < 2 * most
unfoldable pub is_sparse : {B : Type 0} → ℕ → List (Item B) → Bool
is_sparse most items = nat_lt (3 * live items) (2 * most)

unfoldable pub swept : {B : Type 0} → Bool → List (Item B) → List (Item B)
swept true items = live_items items
swept false items = items

-- every item is some row's
unfoldable pub AllLive : {B : Type 0} → List (Item B) → Type 0
AllLive [] = Unit {0}
AllLive (item ∷ items) = (0 < item.count) × AllLive items
