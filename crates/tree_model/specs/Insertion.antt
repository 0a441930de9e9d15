-- Insertion into a scapegoat tree (Galperin and Rivest 1993): the new item stands where the gap was, and where it is too deep, the
-- tree of its nearest ancestor that is too tall for its items is balanced.
use Rattle.std.specs.Prelude.{ℕ, suc, ◌-◌, Bool, true, false, nat_lt, List, [], ◌∷◌, length, take, reverse}
use Rattle.tree_model.specs.declared.Side.{Side}
use Rattle.tree_model.specs.declared.Side.TheVariants.{Left, Right}
use Rattle.tree_model.specs.declared.Place.TheVariants.{Gap}
use Rattle.tree_model.specs.Trees.{Tree, leaf, node, inorder, size, path, balanced}
use Rattle.tree_model.specs.Balance.{limit, nearest_heavy}

-- the tree on one side of the root
unfoldable pub child : {A : Type 0} → Side → Tree A → Tree A
child side leaf = leaf
child Left (node l x r) = l
child Right (node l x r) = r

-- the tree with another on one side of the root
unfoldable pub with_child : {A : Type 0} → Side → Tree A → Tree A → Tree A
with_child side leaf u = leaf
with_child Left (node l x r) u = node u x r
with_child Right (node l x r) u = node l x u

-- the tree at the end of a way
unfoldable pub tree_at : {A : Type 0} → List Side → Tree A → Tree A
tree_at [] t = t
tree_at (side ∷ way) t = tree_at way (child side t)

-- the tree with another at the end of a way
unfoldable pub put_at : {A : Type 0} → List Side → Tree A → Tree A → Tree A
put_at [] t u = u
put_at (side ∷ way) t u = with_child side t (put_at way (child side t) u)

-- how many items have the trees that a way leaves, from the root down
unfoldable pub sizes_along : {A : Type 0} → List Side → Tree A → List ℕ
sizes_along [] t = []
sizes_along (side ∷ way) t = size t ∷ sizes_along way (child side t)

-- a new item where the gap of a rank was
unfoldable pub graft : {A : Type 0} → ℕ → A → Tree A → Tree A
graft rank x t = put_at (path t (Gap rank)) t (node leaf x leaf)

-- the tree at the end of a way becomes balanced
unfoldable pub balanced_at : {A : Type 0} → List Side → Tree A → Tree A
balanced_at way t = put_at way t (balanced (inorder (tree_at way t)))

-- the way to the nearest ancestor that is too tall for its items, from the item at the end of a way upwards
unfoldable pub scapegoat_way : {A : Type 0} → List Side → Tree A → List Side
scapegoat_way way t = take (length way - suc (nearest_heavy 1 (reverse (sizes_along way t)))) way

unfoldable pub settled : {A : Type 0} → Bool → List Side → Tree A → Tree A
settled true way t = balanced_at (scapegoat_way way t) t
settled false way t = t

-- a new item at the gap of a rank, where the greatest number of items is `most`
unfoldable pub insert_tree : {A : Type 0} → ℕ → ℕ → A → Tree A → Tree A
insert_tree most rank x t = settled (nat_lt (limit most) (length (path t (Gap rank)))) (path t (Gap rank)) (graft rank x t)
