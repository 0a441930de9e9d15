-- A column of a table: the tree of its items and the greatest number of items since the tree was last balanced whole, and what the
-- three operations do to it.
use Rattle.std.specs.Prelude.{ℕ, suc, max, Bool, true, false, ◌&&◌, List, [], ◌∷◌, slice_get}
use Rattle.tree_model.specs.declared.Place.{Place}
use Rattle.tree_model.specs.declared.Place.TheVariants.{Found, Gap}
use Rattle.tree_model.specs.Trees.{Tree, leaf, inorder, size, map_tree, balanced}
use Rattle.tree_model.specs.Items.{Item, new_item, one_more, one_less, map_item, live_items, live, is_dead, is_sparse}
use Rattle.tree_model.specs.Insertion.{insert_tree}
use Rattle.tree_model.specs.Removal.{change_tree, remove_tree}

pub record Column (B : Type 0) : Type 0 where
  pub tree : Tree (Item B)
  pub most : ℕ

unfoldable pub empty_column : (B : Type 0) → Column B
empty_column B = record { tree = leaf; most = 0 }

unfoldable pub items_of : {B : Type 0} → Column B → List (Item B)
items_of c = inorder c.tree

-- the balanced tree of the live items
unfoldable pub whole : {B : Type 0} → Tree (Item B) → Tree (Item B)
whole t = balanced (live_items (inorder t))

-- one row more: a found item's count rises and its body stays; a gap gets a new item with this body
unfoldable pub add : {B : Type 0} → Place → B → Column B → Column B
add (Found rank) b c = record { tree = change_tree one_more c.tree rank; most = c.most }
add (Gap rank) b c = record { tree = insert_tree (max c.most (suc (size c.tree))) rank (new_item b) c.tree; most = max c.most (suc (size c.tree)) }

unfoldable pub taken_out : {B : Type 0} → Bool → Tree (Item B) → ℕ → Tree (Item B)
taken_out true t rank = remove_tree t rank
taken_out false t rank = t

unfoldable pub shrunk : {B : Type 0} → Bool → Tree (Item B) → ℕ → Column B
shrunk true t most = record { tree = whole t; most = live (inorder t) }
shrunk false t most = record { tree = t; most = most }

-- the tree becomes whole where it is too small against its greatest number of items
unfoldable pub pruned : {B : Type 0} → Tree (Item B) → ℕ → Column B
pruned t most = shrunk (is_sparse most (inorder t)) t most

-- one row fewer at the item of a rank; in same-time mode an item that no row has any more is taken out
unfoldable pub fewer : {B : Type 0} → Bool → Tree (Item B) → ℕ → Tree (Item B)
fewer same_time t rank = taken_out (same_time && is_dead (slice_get (inorder (change_tree one_less t rank)) rank)) (change_tree one_less t rank) rank

unfoldable pub drop_one : {B : Type 0} → Bool → ℕ → Column B → Column B
drop_one same_time rank c = pruned (fewer same_time c.tree rank) c.most

-- the tree is balanced with all its items
unfoldable pub lay : {B : Type 0} → Column B → Column B
lay c = record { tree = balanced (inorder c.tree); most = size c.tree }

pub data Operation (B : Type 0) : Type 0 where
  Add : Place → B → Operation B
  Drop : ℕ → Operation B
  Lay : Operation B

unfoldable pub apply : {B : Type 0} → Bool → Operation B → Column B → Column B
apply same_time (Add place b) c = add place b c
apply same_time (Drop rank) c = drop_one same_time rank c
apply same_time Lay c = lay c

unfoldable pub apply_all : {B : Type 0} → Bool → List (Operation B) → Column B → Column B
apply_all same_time [] c = c
apply_all same_time (operation ∷ operations) c = apply_all same_time operations (apply same_time operation c)

-- the same over other bodies
unfoldable pub map_column : {B C : Type 0} → (B → C) → Column B → Column C
map_column f c = record { tree = map_tree (map_item f) c.tree; most = c.most }

unfoldable pub map_operation : {B C : Type 0} → (B → C) → Operation B → Operation C
map_operation f (Add place b) = Add place (f b)
map_operation f (Drop rank) = Drop rank
map_operation f Lay = Lay
