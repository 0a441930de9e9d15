-- Binary search trees, the way to each place in one, and the balanced tree of a list.
-- The trees are those of Popa, Li and Zeldovich 2013; `balanced` is after the scapegoat trees of Galperin and Rivest 1993.
use Rattle.std.specs.Prelude.{ℕ, suc, zero, ◌+◌, ◌-◌, ◌/◌, ◌<◌, ◌≤◌, max, Bool, true, false, nat_lt, nat_le, List, [], ◌∷◌, ◌++◌, length, take, drop, Option, Some, None}
use Rattle.tree_model.specs.declared.Side.{Side}
use Rattle.tree_model.specs.declared.Side.TheVariants.{Left, Right}
use Rattle.tree_model.specs.declared.Place.{Place}
use Rattle.tree_model.specs.declared.Place.TheVariants.{Found, Gap}

-- a binary tree with an item at each node
pub data Tree (A : Type 0) : Type 0 where
  leaf : Tree A
  node : Tree A → A → Tree A → Tree A

-- the items from left to right; the rank of an item is its index here
unfoldable pub inorder : {A : Type 0} → Tree A → List A
inorder leaf = []
inorder (node l x r) = inorder l ++ x ∷ inorder r

-- the same tree over other items
unfoldable pub map_tree : {A B : Type 0} → (A → B) → Tree A → Tree B
map_tree f leaf = leaf
map_tree f (node l x r) = node (map_tree f l) (f x) (map_tree f r)

-- how many items
unfoldable pub size : {A : Type 0} → Tree A → ℕ
size leaf = 0
size (node l x r) = size l + suc (size r)

-- how many items the longest way from the root passes
unfoldable pub height : {A : Type 0} → Tree A → ℕ
height leaf = 0
height (node l x r) = suc (max (height l) (height r))

-- a place of n items: the items, and the gaps before, between and after them
unfoldable pub IsPlaceOf : ℕ → Place → Type 0
IsPlaceOf n (Found rank) = rank < n
IsPlaceOf n (Gap rank) = rank ≤ n

-- the side of an item at which a rank lies, by "the rank is smaller" and "the rank is greater"
unfoldable pub side_by : Bool → Bool → Option Side
side_by true after = Some Left
side_by false true = Some Right
side_by false false = None

unfoldable pub gap_side : Bool → Option Side
gap_side true = Some Left
gap_side false = Some Right

-- the side of an item with n items before it at which a place lies; None where it is that item's own
unfoldable pub turn_at : ℕ → Place → Option Side
turn_at n (Found rank) = side_by (nat_lt rank n) (nat_lt n rank)
turn_at n (Gap rank) = gap_side (nat_le rank n)

-- a place as it is called among the items after the first n
unfoldable pub past : ℕ → Place → Place
past n (Found rank) = Found (rank - n)
past n (Gap rank) = Gap (rank - n)

unfoldable pub onward : Option Side → List Side → List Side → List Side
onward None left right = []
onward (Some Left) left right = Left ∷ left
onward (Some Right) left right = Right ∷ right

-- the way from the root to the item of a rank, or to the empty subtree of a gap
unfoldable pub path : {A : Type 0} → Tree A → Place → List Side
path leaf place = []
path (node l x r) place = onward (turn_at (size l) place) (path l place) (path r (past (suc (size l)) place))

-- the tree whose root is the first of the items, with these sides
unfoldable pub rooted : {A : Type 0} → Tree A → List A → Tree A → Tree A
rooted l [] r = leaf
rooted l (x ∷ after) r = node l x r

-- the items halved so many times
unfoldable pub halved : {A : Type 0} → ℕ → List A → Tree A
halved zero xs = leaf
halved (suc turns) xs = rooted (halved turns (take (length xs / 2) xs)) (drop (length xs / 2) xs) (halved turns (drop (suc (length xs / 2)) xs))

-- the tree whose root is item floor(length / 2), and whose sides are the balanced trees of the rest
unfoldable pub balanced : {A : Type 0} → List A → Tree A
balanced xs = halved (length xs) xs
