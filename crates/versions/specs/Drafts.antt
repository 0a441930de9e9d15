-- A table of a version in the making, and the tables that operations are on.
use Rattle.std.specs.Prelude.{◌≡◌, ℕ, ◌<◌, Bool, false, ◌||◌, ◌==◌, List, [], ◌∷◌, length, get_or}
use Rattle.mope_base.specs.declared.body.Body.{Body}
use Rattle.table_model.specs.Operations.{RankOp, rank_ops_on, shelf_at, ops_steps}
use Rattle.table_model.specs.Soundness.{column_at}
use Rattle.enc_table.specs.Seen.{Seen, with_shelf}
use Rattle.versions.specs.declared.draft.Logged.{Logged}
use Rattle.versions.specs.Databases.{Database, table_at}
use Rattle.versions.specs.Operations.{op_table}
use Rattle.versions.specs.Summed.{IsSummed, all_noted}

-- one of the operations is on this table
unfoldable pub is_written : {B : Type 0} → List (RankOp B) → ℕ → Bool
is_written [] table = false
is_written (op ∷ ops) table = (op_table op == table) || is_written ops table

-- the table after those of the operations that are on it, with what was noted of them
pub record IsDraft (d : Database) (table : ℕ) (ops : List (RankOp Body)) (made : Seen) (log : List Logged) : Type 0 where
  pub seen : made ≡ with_shelf (shelf_at (rank_ops_on d.same_time ops d.shelves) table) (table_at d table)
  pub summed : (column : ℕ) → column < length (shelf_at d.shelves table).columns → IsSummed d.same_time (column_at (shelf_at d.shelves table).columns column) (get_or (ops_steps d.same_time table ops d.shelves) column []) (all_noted log column)
