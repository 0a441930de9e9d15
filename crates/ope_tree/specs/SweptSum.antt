-- What a sweep does to the codes of a tree: the items without rows go, and the others stand as in their balanced tree.
use Rattle.std.specs.Prelude.{ℕ, List, [], map}
use Rattle.mope_base.specs.declared.body.Body.{Body}
use Rattle.tree_model.specs.Trees.{Tree, inorder}
use Rattle.tree_model.specs.Items.{Item}
use Rattle.tree_model.specs.Columns.{whole}
use Rattle.path_code.specs.Sums.{Sum}
use Rattle.code_changes.specs.Changes.{differing, with_rows, without_rows}
use Rattle.code_changes.specs.Columns.{codes_of}

-- how many rows have each item of a tree
abbrev pub counts_in : Tree (Item Body) → List ℕ
counts_in t = map (λ item. item.count) (inorder t)

abbrev pub swept_sum : Tree (Item Body) → Sum
swept_sum t = record {
  moved = differing (with_rows (counts_in t) (codes_of t)) (codes_of (whole t));
  dropped = without_rows (counts_in t) (codes_of t);
  added = [];
}
