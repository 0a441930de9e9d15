-- The codes and the counts of the items of a column, from left to right.
use Rattle.std.specs.Prelude.{ℕ, List, map}
use Rattle.std.specs.List.{range_with_len}
use Rattle.tree_model.specs.Trees.{Tree, size}
use Rattle.tree_model.specs.Columns.{Column, items_of}
unfoldable pub use Rattle.tree_model.specs.Tallies.{raised, lowered}
use Rattle.path_code.specs.Sums.{item_code}

-- the codes of the items of a tree
unfoldable pub codes_of : {A : Type 0} → Tree A → List ℕ
codes_of t = map (item_code t) (range_with_len 0 (size t))

-- how many rows have each item of a column
unfoldable pub counts_of : {B : Type 0} → Column B → List ℕ
counts_of c = map (λ item. item.count) (items_of c)
