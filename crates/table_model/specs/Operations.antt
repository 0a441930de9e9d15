-- The operations of transactions on several tables: by value on stores, by rank on shelves.
use Rattle.std.specs.Prelude.{ℕ, Bool, true, false, ◌==◌, List, [], ◌∷◌, map, get_or}
use Rattle.tree_model.specs.declared.Place.{Place}
use Rattle.tree_model.specs.Items.{change_at}
use Rattle.tree_model.specs.Columns.{Column, Operation}
use Rattle.table_model.specs.Stores.{Row, Store, Shelf, empty_shelf}
use Rattle.table_model.specs.Steps.{adds, places_by, then_steps, all_steps}
use Rattle.table_model.specs.Changes.{insert_row, delete_rows, delete_steps, lay_column, insert_cells, delete_numbers, lay_store}
use Rattle.table_model.specs.Soundness.{Sound, Same}

-- by value: a row of cells into a table, or the rows of these numbers out of it
pub data ValueOp (B : Type 0) : Type 0 where
  InsertCells : ℕ → List B → ValueOp B
  DeleteRows : ℕ → List ℕ → ValueOp B

-- by rank: a row's bodies at these places of a table, or the rows of these numbers out of it
pub data RankOp (B : Type 0) : Type 0 where
  InsertAt : ℕ → List Place → List B → RankOp B
  DeleteAt : ℕ → List ℕ → RankOp B

unfoldable pub op_on : {B : Type 0} → Bool → (B → ℕ) → ValueOp B → List (Store B) → List (Store B)
op_on same_time v (InsertCells table cells) stores = change_at (insert_cells same_time v cells) stores table
op_on same_time v (DeleteRows table numbers) stores = change_at (delete_numbers same_time v numbers) stores table

-- one after the other
unfoldable pub ops_on : {B : Type 0} → Bool → (B → ℕ) → List (ValueOp B) → List (Store B) → List (Store B)
ops_on same_time v [] stores = stores
ops_on same_time v (op ∷ ops) stores = ops_on same_time v ops (op_on same_time v op stores)

unfoldable pub rank_op_on : {B : Type 0} → Bool → RankOp B → List (Shelf B) → List (Shelf B)
rank_op_on same_time (InsertAt table places bodies) shelves = change_at (insert_row same_time places bodies) shelves table
rank_op_on same_time (DeleteAt table numbers) shelves = change_at (delete_rows same_time numbers) shelves table

unfoldable pub rank_ops_on : {B : Type 0} → Bool → List (RankOp B) → List (Shelf B) → List (Shelf B)
rank_ops_on same_time [] shelves = shelves
rank_ops_on same_time (op ∷ ops) shelves = rank_ops_on same_time ops (rank_op_on same_time op shelves)

-- ---- installs

-- the tree of one column of one table becomes balanced
unfoldable pub install_on : {B : Type 0} → Bool → ℕ → ℕ → List (Store B) → List (Store B)
install_on same_time table column stores = change_at (lay_store same_time column) stores table

unfoldable pub rank_install_on : {B : Type 0} → Bool → ℕ → ℕ → List (Shelf B) → List (Shelf B)
rank_install_on same_time table column shelves = change_at (lay_column same_time column) shelves table

-- ---- what they do to each column of a table

unfoldable pub shelf_at : {B : Type 0} → List (Shelf B) → ℕ → Shelf B
shelf_at {B} shelves table = get_or shelves table (empty_shelf B 0)

unfoldable pub steps_if : {B : Type 0} → Bool → List (List (Operation B)) → List (List (Operation B))
steps_if true steps = steps
steps_if false steps = []

-- one operation, where it is on this table
unfoldable pub op_steps : {B : Type 0} → Bool → ℕ → RankOp B → List (Shelf B) → List (List (Operation B))
op_steps same_time table (InsertAt t places bodies) shelves = steps_if (t == table) (adds places bodies)
op_steps same_time table (DeleteAt t numbers) shelves = steps_if (t == table) (all_steps (delete_steps same_time numbers (shelf_at shelves table)))

-- all of them that are on this table, one after the other
unfoldable pub ops_steps : {B : Type 0} → Bool → ℕ → List (RankOp B) → List (Shelf B) → List (List (Operation B))
ops_steps same_time table [] shelves = []
ops_steps same_time table (op ∷ ops) shelves = then_steps (op_steps same_time table op shelves) (ops_steps same_time table ops (rank_op_on same_time op shelves))

-- ---- places of values

-- the columns of a table, and none where there is no such table
unfoldable pub columns_in : {B : Type 0} → List (Store B) → ℕ → List (Column B)
columns_in stores table = get_or (map (λ t. t.columns) stores) table []

-- the rows of a table
unfoldable pub rows_in : {B : Type 0} → List (Store B) → ℕ → List (Row B)
rows_in stores table = get_or (map (λ t. t.rows) stores) table []

-- the operation by rank: each cell at the place of its value
unfoldable pub placed_op : {B : Type 0} → (B → ℕ) → ValueOp B → List (Store B) → RankOp B
placed_op v (InsertCells table cells) stores = InsertAt table (places_by v (columns_in stores table) cells) cells
placed_op v (DeleteRows table numbers) stores = DeleteAt table numbers

-- each by the tables as those before it leave them
unfoldable pub placed_ops : {B : Type 0} → Bool → (B → ℕ) → List (ValueOp B) → List (Store B) → List (RankOp B)
placed_ops same_time v [] stores = []
placed_ops same_time v (op ∷ ops) stores = placed_op v op stores ∷ placed_ops same_time v ops (op_on same_time v op stores)

-- ---- the same over other bodies

unfoldable pub map_op : {B C : Type 0} → (B → C) → ValueOp B → ValueOp C
map_op f (InsertCells table cells) = InsertCells table (map f cells)
map_op f (DeleteRows table numbers) = DeleteRows table numbers

unfoldable pub map_rank_op : {B C : Type 0} → (B → C) → RankOp B → RankOp C
map_rank_op f (InsertAt table places bodies) = InsertAt table places (map f bodies)
map_rank_op f (DeleteAt table numbers) = DeleteAt table numbers

-- ---- sound tables, and tables that differ by balancing alone

unfoldable pub AllSound : {B : Type 0} → (B → ℕ) → Bool → ℕ → List (Store B) → Type 0
AllSound v same_time limit [] = Unit {0}
AllSound {B} v same_time limit (t ∷ stores) = Sound B v same_time limit t × AllSound v same_time limit stores

unfoldable pub AllSame : {B : Type 0} → List (Store B) → List (Store B) → Type 0
AllSame [] [] = Unit {0}
AllSame [] (u ∷ others) = ⊥
AllSame (t ∷ stores) [] = ⊥
AllSame {B} (t ∷ stores) (u ∷ others) = Same B t u × AllSame stores others
