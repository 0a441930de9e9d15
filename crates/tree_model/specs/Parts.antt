-- What stands at the end of a way: the item of a rank, or the empty tree of a gap.
use Rattle.std.specs.Prelude.{◌≡◌, ℕ, suc, ◌+◌, ◌<◌, ◌≤◌, List, [], ◌∷◌, ◌++◌, get_or}
use Rattle.tree_model.specs.declared.Side.{Side}
use Rattle.tree_model.specs.declared.Side.TheVariants.{Left, Right}
use Rattle.tree_model.specs.declared.Place.TheVariants.{Found, Gap}
use Rattle.tree_model.specs.Trees.{Tree, leaf, node, inorder, size, path}
use Rattle.tree_model.specs.Insertion.{child, tree_at, put_at}

-- how many items stand to the left of the tree on one side of the root
unfoldable pub beside : {A : Type 0} → Side → Tree A → ℕ
beside side leaf = 0
beside Left (node l x r) = 0
beside Right (node l x r) = suc (size l)

-- how many items stand to the left of the tree at the end of a way
unfoldable pub before : {A : Type 0} → List Side → Tree A → ℕ
before [] t = 0
before (side ∷ way) t = beside side t + before way (child side t)

-- each step of the way leaves an item
unfoldable pub IsWay : {A : Type 0} → List Side → Tree A → Type 0
IsWay [] t = Unit {0}
IsWay (side ∷ way) t = (0 < size t) × IsWay way (child side t)

-- the way leads to an item, and the item has this rank
pub record LeadsToItem (A : Type 0) (t : Tree A) (way : List Side) (rank : ℕ) (x : A) : Type 0 where
  pub is_way : IsWay way t
  pub left : Tree A
  pub right : Tree A
  pub at : tree_at way t ≡ node left x right
  pub rank_is : before way t + size left ≡ rank

-- the way leads to the gap of this rank
pub record LeadsToGap (A : Type 0) (t : Tree A) (way : List Side) (rank : ℕ) : Type 0 where
  pub is_way : IsWay way t
  pub at : tree_at way t ≡ leaf
  pub rank_is : before way t ≡ rank

-- the way to the item of a rank leads to it, and no other way does
abbrev pub ItemIsAtWay : Type 0 → Type 0
ItemIsAtWay A = (t : Tree A) (rank : ℕ) (d : A) → rank < size t → LeadsToItem A t (path t (Found rank)) rank (get_or (inorder t) rank d)

abbrev pub WayOfItem : Type 0 → Type 0
WayOfItem A = (t : Tree A) (way : List Side) (rank : ℕ) (x : A) → LeadsToItem A t way rank x → way ≡ path t (Found rank)

-- the same for a gap
abbrev pub GapIsAtWay : Type 0 → Type 0
GapIsAtWay A = (t : Tree A) (rank : ℕ) → rank ≤ size t → LeadsToGap A t (path t (Gap rank)) rank

abbrev pub WayOfGap : Type 0 → Type 0
WayOfGap A = (t : Tree A) (way : List Side) (rank : ℕ) → LeadsToGap A t way rank → way ≡ path t (Gap rank)

-- the items within a part stand at its way and then at their ways in the part
abbrev pub WaysInPart : Type 0 → Type 0
WaysInPart A = (t : Tree A) (way : List Side) (k : ℕ) → IsWay way t → k < size (tree_at way t) → path t (Found (before way t + k)) ≡ way ++ path (tree_at way t) (Found k)

-- where a part gives way to another with as many items, the items outside it stand where they stood
pub record Outside (A : Type 0) (t u : Tree A) (first count : ℕ) : Type 0 where
  pub before_part : (k : ℕ) → k < first → path u (Found k) ≡ path t (Found k)
  pub after_part : (k : ℕ) → first + count ≤ k → k < size t → path u (Found k) ≡ path t (Found k)

abbrev pub PartStaysOutside : Type 0 → Type 0
PartStaysOutside A = (t part : Tree A) (way : List Side) → IsWay way t → size part ≡ size (tree_at way t) → Outside A t (put_at way t part) (before way t) (size part)

-- and those within it at the way of the part and then at their ways in the new part
abbrev pub WaysInNewPart : Type 0 → Type 0
WaysInNewPart A = (t part : Tree A) (way : List Side) (k : ℕ) → IsWay way t → k < size part → path (put_at way t part) (Found (before way t + k)) ≡ way ++ path part (Found k)
