-- The count of the item of a rank.
use Rattle.std.specs.Prelude.{ℕ, get_or}
use Rattle.tree_model.specs.Columns.{Column}
use Rattle.code_changes.specs.Columns.{counts_of}

-- how many rows have the item of a rank, and 0 where there is none
unfoldable pub count_at : {B : Type 0} → Column B → ℕ → ℕ
count_at c rank = get_or (counts_of c) rank 0
