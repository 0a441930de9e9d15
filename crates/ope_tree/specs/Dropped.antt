-- The change of codes where an item has lost a row, told by the tree in which it has: what the item's own going, the sweep of all items
-- without rows, or neither does.
use Rattle.std.specs.Prelude.{◌≡◌, ℕ, Bool, true, false, []}
use Rattle.mope_base.specs.declared.body.Body.{Body}
use Rattle.tree_model.specs.Trees.{Tree, inorder}
use Rattle.tree_model.specs.Items.{Item, is_sparse}
use Rattle.path_code.specs.Sums.{Sum}
use Rattle.code_changes.specs.Removal.{removal_sum, goes_alone}
use Rattle.ope_tree.specs.SweptSum.{swept_sum}

pub record IsDropChange (same_time : Bool) (most rank : ℕ) (t : Tree (Item Body)) (s : Sum) : Type 0 where
  pub alone : goes_alone same_time most (inorder t) rank ≡ true → s ≡ removal_sum t rank
  pub sparse : is_sparse most (inorder t) ≡ true → s ≡ swept_sum t
  pub neither : goes_alone same_time most (inorder t) rank ≡ false → is_sparse most (inorder t) ≡ false → s ≡ record { moved = []; dropped = []; added = [] }
