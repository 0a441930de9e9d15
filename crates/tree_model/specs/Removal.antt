-- A tree with one item changed, and with one item taken out.
use Rattle.std.specs.Prelude.{ℕ, suc, ◌-◌, Option, Some, None}
use Rattle.tree_model.specs.declared.Side.{Side}
use Rattle.tree_model.specs.declared.Side.TheVariants.{Left, Right}
use Rattle.tree_model.specs.declared.Place.TheVariants.{Found}
use Rattle.tree_model.specs.Trees.{Tree, leaf, node, size, turn_at}

-- where a place lies: in the left tree, at the item, in the right tree
unfoldable pub by_side : {A : Type 0} → Option Side → A → A → A → A
by_side (Some Left) left here right = left
by_side None left here right = here
by_side (Some Right) left here right = right

-- the item of a rank changed
unfoldable pub change_tree : {A : Type 0} → (A → A) → Tree A → ℕ → Tree A
change_tree f leaf rank = leaf
change_tree f (node l x r) rank = by_side (turn_at (size l) (Found rank)) (node (change_tree f l rank) x r) (node l (f x) r) (node l x (change_tree f r (rank - suc (size l))))

-- the leftmost item of the tree, where x stands to its right
unfoldable pub first_or : {A : Type 0} → A → Tree A → A
first_or x leaf = x
first_or x (node l y r) = first_or y l

-- the leftmost item taken out of (l, x, r); its right tree moves up
unfoldable pub without_first : {A : Type 0} → Tree A → A → Tree A → Tree A
without_first leaf x r = r
without_first (node a y b) x r = node (without_first a y b) x r

-- two trees whose root was taken out: at most one child takes its place, else the leftmost item of the right tree does
unfoldable pub joined : {A : Type 0} → Tree A → Tree A → Tree A
joined leaf r = r
joined (node a y b) leaf = node a y b
joined (node a y b) (node c z d) = node (node a y b) (first_or z c) (without_first c z d)

-- the item of a rank taken out
unfoldable pub remove_tree : {A : Type 0} → Tree A → ℕ → Tree A
remove_tree leaf rank = leaf
remove_tree (node l x r) rank = by_side (turn_at (size l) (Found rank)) (node (remove_tree l rank) x r) (joined l r) (node l x (remove_tree r (rank - suc (size l))))
