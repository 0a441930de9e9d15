-- What a table by rank always is, whatever its bodies are: what a server knows that can't read them.
use Rattle.std.specs.Prelude.{◌≡◌, ℕ, ◌<◌, ◌≤◌, Bool, true, List, [], ◌∷◌, ◌++◌, length, get_or}
use Rattle.std.specs.List.{range_with_len}
use Rattle.tree_model.specs.Trees.{size}
use Rattle.tree_model.specs.Places.{holds, IsIncreasing}
use Rattle.tree_model.specs.Columns.{Column, items_of, Operation}
use Rattle.tree_model.specs.ColumnLaws.{IsKept, SuitsMode}
use Rattle.tree_model.specs.Sums.{origins}
use Rattle.tree_model.specs.Carried.{is_origin}
use Rattle.tree_model.specs.Tallies.{counts, Tallied}
use Rattle.table_model.specs.Stores.{Kept, Shelf}
use Rattle.table_model.specs.Soundness.{kept_numbers, ranks_at, column_at}

-- each row has so many bodies and ranks
unfoldable pub AllFull : {B : Type 0} → ℕ → List (Kept B) → Type 0
AllFull width [] = Unit {0}
AllFull width (row ∷ kept) = (length row.bodies ≡ width) × (length row.ranks ≡ width) × AllFull width kept

-- a column beside the ranks that the rows have in it: each is an item's, each item's count is the number of rows with its rank, no item
-- is too deep, enough items are live, and it is as the mode leaves it
pub record SoundRanks (B : Type 0) (same_time : Bool) (c : Column B) (ranks : List ℕ) : Type 0 where
  pub tallied : Tallied (range_with_len 0 (size c.tree)) (counts (items_of c)) ranks
  pub kept : IsKept B c
  pub suits : SuitsMode same_time c

-- there are at most so many rows, their numbers increase and the next one is above them, each has one body and one rank for each column,
-- and each column is sound beside the ranks
pub record SoundShelf (B : Type 0) (same_time : Bool) (limit : ℕ) (s : Shelf B) : Type 0 where
  pub few : length s.kept ≤ limit
  pub numbered : IsIncreasing (kept_numbers s.kept ++ s.next ∷ [])
  pub full : AllFull (length s.columns) s.kept
  pub columns : (column : ℕ) → column < length s.columns → SoundRanks B same_time (column_at s.columns column) (ranks_at column s.kept)

-- each row has the rank of an item in each column
pub record IsRanked (B : Type 0) (s : Shelf B) : Type 0 where
  pub full : AllFull (length s.columns) s.kept
  pub within : (column rank : ℕ) → column < length s.columns → holds rank (ranks_at column s.kept) ≡ true → rank < size (column_at s.columns column).tree

-- operations leave the items of these rows: each stays, so that `carried` tells its rank after them
unfoldable pub RowsStay : {B : Type 0} → Bool → List (List (Operation B)) → List (Column B) → List (Kept B) → Type 0
RowsStay same_time steps cs kept = (column rank : ℕ) → column < length cs → holds rank (ranks_at column kept) ≡ true → is_origin rank (origins same_time (get_or steps column []) (column_at cs column)) ≡ true

-- several tables
unfoldable pub AllSoundShelves : {B : Type 0} → Bool → ℕ → List (Shelf B) → Type 0
AllSoundShelves same_time limit [] = Unit {0}
AllSoundShelves {B} same_time limit (s ∷ shelves) = SoundShelf B same_time limit s × AllSoundShelves same_time limit shelves
