-- The codes of a part of a tree, and what becomes of codes where an item is taken out of the tree: the item that takes its place and the
-- part that moves up get other codes, and no others do.
use Rattle.std.specs.Prelude.{ℕ, suc, ◌-◌, Bool, not, ◌&&◌, List, [], ◌∷◌, ◌++◌, slice_get}
use Rattle.tree_model.specs.declared.Side.{Side}
use Rattle.tree_model.specs.declared.Side.TheVariants.{Left, Right}
use Rattle.tree_model.specs.declared.Place.TheVariants.{Found}
use Rattle.tree_model.specs.Trees.{Tree, leaf, node, size, turn_at}
use Rattle.tree_model.specs.Items.{Item, is_dead, is_sparse}
use Rattle.tree_model.specs.Removal.{by_side}
use Rattle.path_code.specs.Codes.{code_of}
use Rattle.path_code.specs.declared.moves.Recode.{Recode}
use Rattle.path_code.specs.Sums.{item_code, Sum}
use Rattle.code_changes.specs.Changes.{differing}

-- the codes of the items, in order, of a tree that stands at the end of a way
unfoldable pub codes_along : {A : Type 0} → List Side → Tree A → List ℕ
codes_along way leaf = []
codes_along way (node l x r) = codes_along (way ++ Left ∷ []) l ++ code_of way ∷ codes_along (way ++ Right ∷ []) r

-- the pairs of codes of a tree that stood on one side of the end of a way, and stands there itself now
unfoldable pub moved_up : {A : Type 0} → List Side → Side → Tree A → List Recode
moved_up way side t = differing (codes_along (way ++ side ∷ []) t) (codes_along way t)

-- the leftmost item of a tree (l, x, r) that stands at the end of a way goes to the end of another, and its right tree moves up
unfoldable pub first_moved : {A : Type 0} → List Side → List Side → Tree A → Tree A → List Recode
first_moved to way leaf r = differing (code_of way ∷ codes_along (way ++ Right ∷ []) r) (code_of to ∷ codes_along way r)
first_moved to way (node a y b) r = first_moved to (way ++ Left ∷ []) a b

-- where the item at the end of a way goes: its one child moves up, or the leftmost item of its right tree takes its place
unfoldable pub joined_moved : {A : Type 0} → List Side → Tree A → Tree A → List Recode
joined_moved way leaf r = moved_up way Right r
joined_moved way (node a y b) leaf = moved_up way Left (node a y b)
joined_moved way (node a y b) (node c z d) = first_moved way (way ++ Right ∷ []) c d

-- the pairs of codes that differ where the item of a rank is taken out of a tree at the end of a way
unfoldable pub removal_moved : {A : Type 0} → List Side → Tree A → ℕ → List Recode
removal_moved way leaf rank = []
removal_moved way (node l x r) rank = by_side (turn_at (size l) (Found rank)) (removal_moved (way ++ Left ∷ []) l rank) (joined_moved way l r) (removal_moved (way ++ Right ∷ []) r (rank - suc (size l)))

-- what the removal of the item of a rank does to the codes of a tree
unfoldable pub removal_sum : {A : Type 0} → Tree A → ℕ → Sum
removal_sum t rank = record { moved = removal_moved [] t rank; dropped = item_code t rank ∷ []; added = [] }

-- whether, of items of which one has just lost a row, that one goes and the tree isn't balanced whole
unfoldable pub goes_alone : {B : Type 0} → Bool → ℕ → List (Item B) → ℕ → Bool
goes_alone same_time most items rank = (same_time && is_dead (slice_get items rank)) && not (is_sparse most items)
