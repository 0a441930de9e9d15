-- A table by rank that stands for a table by value: the statements of laws that this crate's functions without a body prove.
use Rattle.std.specs.Prelude.{◌≡◌, ℕ, ◌<◌, Bool, List, length, map, get_or}
use Rattle.tree_model.specs.Items.{values}
use Rattle.tree_model.specs.Columns.{items_of}
use Rattle.table_model.specs.Stores.{Store, Shelf, empty_store, empty_shelf}
use Rattle.table_model.specs.Steps.{places_by}
use Rattle.table_model.specs.Changes.{insert_row, delete_row, delete_rows, lay_column, insert_cells, delete_number, delete_numbers, lay_store}
use Rattle.table_model.specs.Soundness.{column_at, readings_at, ranks_at}
use Rattle.table_model.specs.Operations.{ValueOp, RankOp, ops_on, rank_ops_on, install_on, rank_install_on, placed_ops, map_rank_op, AllSound, AllSame}
use Rattle.table_model.specs.Fitting.{AllFit, AllFitAt}
use Rattle.table_model.specs.Standing.{Stands, AllStand}

abbrev pub EmptyStands : Type 0 → Type 0 → Type 0
EmptyStands B C = (seal : C → B) (v : C → ℕ) (same_time : Bool) (limit columns : ℕ) → Stands B C seal v same_time limit (empty_shelf B columns) (empty_store C columns)

-- the shelf after an operation by rank stands for the store after the operation by value; an INSERT's bodies are the sealed cells, at
-- the places of their values
pub record KeepsStanding (B C : Type 0) (seal : C → B) (v : C → ℕ) (same_time : Bool) (limit : ℕ) (table : Shelf B) (t : Store C) : Type 0 where
  pub inserts : (cells : List C) → length cells ≡ length t.columns → length t.rows < limit → Stands B C seal v same_time limit (insert_row same_time (places_by v t.columns cells) (map seal cells) table) (insert_cells same_time v cells t)
  pub deletes : (number : ℕ) → Stands B C seal v same_time limit (delete_row same_time number table) (delete_number same_time v number t)
  pub deletes_each : (numbers : List ℕ) → Stands B C seal v same_time limit (delete_rows same_time numbers table) (delete_numbers same_time v numbers t)
  pub lays : (column : ℕ) → Stands B C seal v same_time limit (lay_column same_time column table) (lay_store same_time column t)

abbrev pub OperationsKeepStanding : Type 0 → Type 0 → Type 0
OperationsKeepStanding B C = (seal : C → B) (v : C → ℕ) (same_time : Bool) (limit : ℕ) (table : Shelf B) (t : Store C) → Stands B C seal v same_time limit table t → KeepsStanding B C seal v same_time limit table t

-- where sealed cells read as their values, each row's body in a column reads as the item of its rank does
abbrev pub BodiesReadAsItems : Type 0 → Type 0 → Type 0
BodiesReadAsItems B C = (seal : C → B) (v : C → ℕ) (same_time : Bool) (limit : ℕ) (table : Shelf B) (t : Store C) (u : B → ℕ) (column : ℕ) → Stands B C seal v same_time limit table t → ((c : C) → u (seal c) ≡ v c) → column < length table.columns
    → readings_at u column table.kept ≡ map (λ rank. get_or (values u (items_of (column_at table.columns column))) rank 0) (ranks_at column table.kept)

-- ---- several tables

abbrev pub EmptiesStand : Type 0 → Type 0 → Type 0
EmptiesStand B C = (seal : C → B) (v : C → ℕ) (same_time : Bool) (limit : ℕ) (widths : List ℕ) → AllStand B C seal v same_time limit (map (empty_shelf B) widths) (map (empty_store C) widths)

-- operations, placed by tables of which the present ones differ by balancing alone and sealed, fit the shelves, which stand afterwards for
-- the stores after the operations by value
pub record OpsStand (B C : Type 0) (seal : C → B) (v : C → ℕ) (same_time : Bool) (limit : ℕ) (ops : List (ValueOp C)) (placed : List (RankOp B)) (shelves : List (Shelf B)) (stores : List (Store C)) : Type 0 where
  pub fit : AllFitAt same_time limit placed shelves
  pub stand : AllStand B C seal v same_time limit (rank_ops_on same_time placed shelves) (ops_on same_time v ops stores)

abbrev pub OperationsStand : Type 0 → Type 0 → Type 0
OperationsStand B C = (seal : C → B) (v : C → ℕ) (same_time : Bool) (limit : ℕ) (ops : List (ValueOp C)) (base stores : List (Store C)) (shelves : List (Shelf B)) → AllStand B C seal v same_time limit shelves stores → AllSound v same_time limit base → AllSame base stores → AllFit same_time v limit ops base
    → OpsStand B C seal v same_time limit ops (map (map_rank_op seal) (placed_ops same_time v ops base)) shelves stores

abbrev pub InstallStands : Type 0 → Type 0 → Type 0
InstallStands B C = (seal : C → B) (v : C → ℕ) (same_time : Bool) (limit table column : ℕ) (stores : List (Store C)) (shelves : List (Shelf B)) → AllStand B C seal v same_time limit shelves stores → AllStand B C seal v same_time limit (rank_install_on same_time table column shelves) (install_on same_time table column stores)
