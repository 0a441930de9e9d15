-- What the operations on a table by rank keep: the statements of laws that this crate's functions without a body prove.
use Rattle.std.specs.Prelude.{◌≡◌, ℕ, ◌<◌, Bool, true, List, [], ◌∷◌, length, map, get_or}
use Rattle.tree_model.specs.declared.Place.{Place}
use Rattle.tree_model.specs.Trees.{size}
use Rattle.tree_model.specs.Places.{holds}
use Rattle.tree_model.specs.Columns.{Operation, Lay, apply_all}
use Rattle.tree_model.specs.Sums.{origins}
use Rattle.tree_model.specs.Carried.{carried}
use Rattle.table_model.specs.Stores.{Store, Shelf, empty_shelf, map_shelf, shelf_of}
use Rattle.table_model.specs.Steps.{operated, adds, drops, only}
use Rattle.table_model.specs.Changes.{insert_row, delete_row, delete_rows, lay_column, ranks_of, kept_without, shelf_without}
use Rattle.table_model.specs.Soundness.{ranks_at, column_at, Sound, FitsRows}
use Rattle.table_model.specs.Operations.{RankOp, rank_ops_on, rank_install_on}
use Rattle.table_model.specs.Fitting.{AllPlaced, AllFitAt}
use Rattle.table_model.specs.Standing.{Stands}
use Rattle.table_model.specs.ShelfSoundness.{SoundShelf, IsRanked, RowsStay, AllSoundShelves}

abbrev pub EmptyShelfIsSound : Type 0 → Type 0
EmptyShelfIsSound B = (same_time : Bool) (limit columns : ℕ) → SoundShelf B same_time limit (empty_shelf B columns)

-- each operation by rank leaves a sound shelf sound; an INSERT where each place is one of its column, and there are fewer rows than the limit
pub record ShelfStaysSound (B : Type 0) (same_time : Bool) (limit : ℕ) (s : Shelf B) : Type 0 where
  pub inserts : (places : List Place) (bodies : List B) → AllPlaced s.columns places → length bodies ≡ length s.columns → length s.kept < limit → SoundShelf B same_time limit (insert_row same_time places bodies s)
  pub deletes : (number : ℕ) → SoundShelf B same_time limit (delete_row same_time number s)
  pub deletes_each : (numbers : List ℕ) → SoundShelf B same_time limit (delete_rows same_time numbers s)
  pub lays : (column : ℕ) → SoundShelf B same_time limit (lay_column same_time column s)

abbrev pub OperationsKeepShelf : Type 0 → Type 0
OperationsKeepShelf B = (same_time : Bool) (limit : ℕ) (s : Shelf B) → SoundShelf B same_time limit s → ShelfStaysSound B same_time limit s

-- and leaves each row that isn't deleted its items
pub record LeavesRows (B : Type 0) (same_time : Bool) (s : Shelf B) : Type 0 where
  pub inserts : (places : List Place) (bodies : List B) → RowsStay same_time (adds places bodies) s.columns s.kept
  pub deletes : (number : ℕ) → RowsStay same_time (drops (ranks_of number s.kept)) s.columns (kept_without number s.kept)
  pub lays : (column : ℕ) → RowsStay same_time (only column (Lay ∷ [])) s.columns s.kept

abbrev pub OperationsLeaveRows : Type 0 → Type 0
OperationsLeaveRows B = (same_time : Bool) (limit : ℕ) (s : Shelf B) → SoundShelf B same_time limit s → LeavesRows B same_time s

-- column by column: a column after the operations, and the ranks of the rows in it
pub record ColumnFollows (B : Type 0) (same_time : Bool) (steps : List (List (Operation B))) (s : Shelf B) (column : ℕ) : Type 0 where
  pub column_is : column_at (operated same_time steps s).columns column ≡ apply_all same_time (get_or steps column []) (column_at s.columns column)
  pub ranks_are : ranks_at column (operated same_time steps s).kept ≡ map (carried (origins same_time (get_or steps column []) (column_at s.columns column))) (ranks_at column s.kept)

abbrev pub ColumnsFollow : Type 0 → Type 0
ColumnsFollow B = (same_time : Bool) (steps : List (List (Operation B))) (s : Shelf B) (column : ℕ) → IsRanked B s → column < length s.columns → ColumnFollows B same_time steps s column

-- in a sound shelf each row has the rank of an item in each column, and so have the others where a row is taken out
pub record HasRanks (B : Type 0) (s : Shelf B) : Type 0 where
  pub ranked : IsRanked B s
  pub without : (number : ℕ) → IsRanked B (shelf_without number s)

abbrev pub SoundHasRanks : Type 0 → Type 0
SoundHasRanks B = (same_time : Bool) (limit : ℕ) (s : Shelf B) → SoundShelf B same_time limit s → HasRanks B s

-- what follows for a column: each row's rank is one of its items', and the limit of rows bounds items, counts and ways
pub record ShelfGives (B : Type 0) (limit : ℕ) (s : Shelf B) (column : ℕ) : Type 0 where
  pub within : (rank : ℕ) → holds rank (ranks_at column s.kept) ≡ true → rank < size (column_at s.columns column).tree
  pub fits : FitsRows B limit (column_at s.columns column)

abbrev pub ShelfFitsRows : Type 0 → Type 0
ShelfFitsRows B = (same_time : Bool) (limit : ℕ) (s : Shelf B) (column : ℕ) → SoundShelf B same_time limit s → column < length s.columns → ShelfGives B limit s column

-- the shelf of a sound table is sound, with any bodies; so is one that stands for a table
abbrev pub ShelfOfSound : Type 0 → Type 0
ShelfOfSound B = (v : B → ℕ) (same_time : Bool) (limit : ℕ) (t : Store B) → Sound B v same_time limit t → SoundShelf B same_time limit (shelf_of v t)

abbrev pub ShelfSoundIsBlind : Type 0 → Type 0 → Type 0
ShelfSoundIsBlind B C = (f : B → C) (same_time : Bool) (limit : ℕ) (s : Shelf B) → SoundShelf B same_time limit s → SoundShelf C same_time limit (map_shelf f s)

abbrev pub StandingShelfIsSound : Type 0 → Type 0 → Type 0
StandingShelfIsSound B C = (seal : C → B) (v : C → ℕ) (same_time : Bool) (limit : ℕ) (table : Shelf B) (t : Store C) → Stands B C seal v same_time limit table t → SoundShelf B same_time limit table

-- several tables: those without rows are sound, and operations that fit and installs leave sound shelves sound
pub record KeepsAllSoundShelves (B : Type 0) (same_time : Bool) (limit : ℕ) : Type 0 where
  pub empty : (widths : List ℕ) → AllSoundShelves same_time limit (map (empty_shelf B) widths)
  pub ops : (ops : List (RankOp B)) (shelves : List (Shelf B)) → AllSoundShelves same_time limit shelves → AllFitAt same_time limit ops shelves → AllSoundShelves same_time limit (rank_ops_on same_time ops shelves)
  pub install : (table column : ℕ) (shelves : List (Shelf B)) → AllSoundShelves same_time limit shelves → AllSoundShelves same_time limit (rank_install_on same_time table column shelves)

abbrev pub ShelvesStaySound : Type 0 → Type 0
ShelvesStaySound B = (same_time : Bool) (limit : ℕ) → KeepsAllSoundShelves B same_time limit
