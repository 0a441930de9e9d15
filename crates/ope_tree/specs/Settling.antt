-- The part of a tree that becomes balanced after an insertion, and what that does to codes.
use Rattle.std.specs.Prelude.{◌≡◌, ℕ, suc, ◌+◌, ◌-◌, ◌<◌, ◌≤◌, List, ◌++◌, length, remove, reverse, get_or}
use Rattle.mope_base.specs.declared.body.Body.{Body}
use Rattle.tree_model.specs.declared.Side.{Side}
use Rattle.tree_model.specs.declared.Place.TheVariants.{Found}
use Rattle.tree_model.specs.Trees.{Tree, inorder, size, height, path, balanced}
use Rattle.tree_model.specs.Items.{Item}
use Rattle.tree_model.specs.Balance.{nearest_heavy}
use Rattle.tree_model.specs.Insertion.{tree_at, sizes_along}
use Rattle.tree_model.specs.Parts.{before}
use Rattle.path_code.specs.Ways.{way}
use Rattle.path_code.specs.declared.moves.Recode.{Recode}
use Rattle.ope_tree.specs.declared.nodes.Node.{Node}
use Rattle.ope_tree.specs.declared.settling.Part.{Part}
use Rattle.ope_tree.specs.Nodes.{tree_of, IsLink}
use Rattle.code_changes.specs.Changes.{differing}
use Rattle.code_changes.specs.Removal.{codes_along}

-- how far down the nearest ancestor of the item of a rank stands that is too tall for its items
unfoldable pub tall_depth : {A : Type 0} → Tree A → ℕ → ℕ
tall_depth t rank = length (path t (Found rank)) - suc (nearest_heavy 1 (reverse (sizes_along (path t (Found rank)) t)))

-- a part of a part, at the end of a way
pub record IsPartOf (nodes : List Node) (from part : Part) (along : List Side) : Type 0 where
  pub link : IsLink nodes part.link
  pub tree : tree_of nodes part.link ≡ tree_at along (tree_of nodes from.link)
  pub path : way part.path ≡ way from.path ++ along
  pub short : part.path.len + height (tree_of nodes part.link) ≤ 63
  pub rank_is : before along (tree_of nodes from.link) + part.rank ≡ from.rank
  pub within : part.rank < size (tree_of nodes part.link)

-- where a part at the end of a way becomes balanced, of which the item of a rank is new: the pairs of codes of the other items that
-- differ, and the new item's code
unfoldable pub moved_in : {A : Type 0} → List Side → Tree A → ℕ → List Recode
moved_in along t rank = differing (remove (codes_along along t) rank) (remove (codes_along along (balanced (inorder t))) rank)

unfoldable pub added_in : {A : Type 0} → List Side → Tree A → ℕ → ℕ
added_in along t rank = get_or (codes_along along (balanced (inorder t))) rank 0

-- the same for the part at the end of a way of a tree, where the rank is one of the whole
pub record IsMovedIn (t : Tree (Item Body)) (along : List Side) (rank : ℕ) (moved : List Recode) (added : ℕ) : Type 0 where
  pub inner : ℕ
  pub rank_is : before along t + inner ≡ rank
  pub within : inner < size (tree_at along t)
  pub moved_is : moved ≡ moved_in along (tree_at along t) inner
  pub added_is : added ≡ added_in along (tree_at along t) inner
