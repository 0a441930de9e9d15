-- When operations on several tables fit them: what a transaction's operations do by themselves, and what a commit asks for.
use Rattle.std.specs.Prelude.{◌≡◌, ℕ, ◌<◌, Bool, true, List, [], ◌∷◌, length}
use Rattle.tree_model.specs.declared.Place.{Place}
use Rattle.tree_model.specs.Trees.{size, IsPlaceOf}
use Rattle.tree_model.specs.Places.{holds, IsIncreasing}
use Rattle.tree_model.specs.Columns.{Column}
use Rattle.table_model.specs.Stores.{Store, Shelf}
use Rattle.table_model.specs.Soundness.{numbers_of, kept_numbers}
use Rattle.table_model.specs.Operations.{ValueOp, InsertCells, DeleteRows, RankOp, InsertAt, DeleteAt, op_on, rank_op_on, columns_in, rows_in, shelf_at}

-- each of them is one of these
unfoldable pub AllAmong : List ℕ → List ℕ → Type 0
AllAmong numbers [] = Unit {0}
AllAmong numbers (x ∷ xs) = (holds x numbers ≡ true) × AllAmong numbers xs

-- ---- by value

-- an INSERT's table is there, has as many columns as there are cells, and fewer rows than the limit
pub record FitsInsert (B : Type 0) (limit table : ℕ) (cells : List B) (stores : List (Store B)) : Type 0 where
  pub there : table < length stores
  pub wide : length cells ≡ length (columns_in stores table)
  pub room : length (rows_in stores table) < limit

-- a DELETE's table is there, and its numbers, one or more, increase and are numbers of the table's rows
pub record FitsDelete (B : Type 0) (table : ℕ) (numbers : List ℕ) (stores : List (Store B)) : Type 0 where
  pub there : table < length stores
  pub some : 0 < length numbers
  pub rise : IsIncreasing numbers
  pub live : AllAmong (numbers_of (rows_in stores table)) numbers

unfoldable pub OpFits : {B : Type 0} → ℕ → ValueOp B → List (Store B) → Type 0
OpFits {B} limit (InsertCells table cells) stores = FitsInsert B limit table cells stores
OpFits {B} limit (DeleteRows table numbers) stores = FitsDelete B table numbers stores

-- each fits the tables as those before it leave them
unfoldable pub AllFit : {B : Type 0} → Bool → (B → ℕ) → ℕ → List (ValueOp B) → List (Store B) → Type 0
AllFit same_time v limit [] stores = Unit {0}
AllFit same_time v limit (op ∷ ops) stores = OpFits limit op stores × AllFit same_time v limit ops (op_on same_time v op stores)

-- ---- by rank

-- each place is one of its column
unfoldable pub AllPlaced : {B : Type 0} → List (Column B) → List Place → Type 0
AllPlaced [] [] = Unit {0}
AllPlaced [] (p ∷ places) = ⊥
AllPlaced (c ∷ cs) [] = ⊥
AllPlaced (c ∷ cs) (p ∷ places) = IsPlaceOf (size c.tree) p × AllPlaced cs places

pub record FitsInsertAt (B : Type 0) (limit table : ℕ) (places : List Place) (bodies : List B) (shelves : List (Shelf B)) : Type 0 where
  pub there : table < length shelves
  pub placed : AllPlaced (shelf_at shelves table).columns places
  pub wide : length bodies ≡ length (shelf_at shelves table).columns
  pub room : length (shelf_at shelves table).kept < limit

pub record FitsDeleteAt (B : Type 0) (table : ℕ) (numbers : List ℕ) (shelves : List (Shelf B)) : Type 0 where
  pub there : table < length shelves
  pub some : 0 < length numbers
  pub rise : IsIncreasing numbers
  pub live : AllAmong (kept_numbers (shelf_at shelves table).kept) numbers

unfoldable pub OpFitsAt : {B : Type 0} → ℕ → RankOp B → List (Shelf B) → Type 0
OpFitsAt {B} limit (InsertAt table places bodies) shelves = FitsInsertAt B limit table places bodies shelves
OpFitsAt {B} limit (DeleteAt table numbers) shelves = FitsDeleteAt B table numbers shelves

unfoldable pub AllFitAt : {B : Type 0} → Bool → ℕ → List (RankOp B) → List (Shelf B) → Type 0
AllFitAt same_time limit [] shelves = Unit {0}
AllFitAt same_time limit (op ∷ ops) shelves = OpFitsAt limit op shelves × AllFitAt same_time limit ops (rank_op_on same_time op shelves)
