-- When a stored column agrees with the numbers of the rows, and what the operations on a column do to it.
use Rattle.std.specs.Prelude.{◌≡◌, ℕ, ◌+◌, ◌<◌, ◌≤◌, ◌^◌, Bool, true, false, List, [], ◌∷◌, ◌++◌, length, map, insert, remove}
use Rattle.mope_base.specs.declared.body.Body.{Body}
use Rattle.tree_model.specs.declared.Place.{Place}
use Rattle.tree_model.specs.Trees.{Tree, size, height, IsPlaceOf}
use Rattle.tree_model.specs.Places.{holds, IsIncreasing}
use Rattle.tree_model.specs.Items.{Item}
use Rattle.tree_model.specs.Columns.{Column, Operation, Add, Drop, Lay, apply_all}
use Rattle.tree_model.specs.Sums.{origins}
use Rattle.tree_model.specs.Carried.{is_origin, carried}
use Rattle.path_code.specs.Sums.{item_code}
use Rattle.table_model.specs.Steps.{rank_in}
use Rattle.column_index.specs.declared.entry.Entry.{Entry}
use Rattle.column_index.specs.Entries.{sorted}
use Rattle.column_index.specs.Seen.{index_of}
use Rattle.ope_tree.specs.Conditions.{HasRoom}
use Rattle.ope_tree.specs.Listed.{count_at}
use Rattle.enc_table.specs.declared.cell.Cell.{Cell}
use Rattle.enc_table.specs.declared.columns.Column.{Column as Stored}
use Rattle.enc_table.specs.Stored.{codes_in, bodies_in, ranks_in, rank_in_row}

-- the entries of rows with these codes and numbers
unfoldable pub entries_of : List ℕ → List ℕ → List Entry
entries_of [] numbers = []
entries_of (code ∷ codes) [] = []
entries_of (code ∷ codes) (number ∷ numbers) = record { enc = code; row = number } ∷ entries_of codes numbers

-- a cell with what becomes of its code
unfoldable pub moved_cell : (ℕ → ℕ) → Cell → Cell
moved_cell to cell = record { body = cell.body; code = to cell.code }

-- the codes are those of the items of these ranks
pub record AreCoded (A : Type 0) (t : Tree A) (codes ranks : List ℕ) : Type 0 where
  pub coded : codes ≡ map (item_code t) ranks
  pub within : (rank : ℕ) → holds rank ranks ≡ true → rank < size t

-- a row for each number; each row's code is its item's; the index has the rows' entries; nothing is spent, and no way is too long for a code
pub record IsHeld (numbers : List ℕ) (c : Stored) : Type 0 where
  pub many : length c.cells ≡ length numbers
  pub coded : AreCoded (Item Body) c.tree.column.tree (codes_in c.cells) (ranks_in c)
  pub indexed : c.index ≡ index_of (sorted (entries_of (codes_in c.cells) numbers))
  pub fresh : c.tree.spent ≡ false
  pub short : height c.tree.column.tree ≤ 63

-- a column after operations, with these bodies and ranks of its rows
pub record HasBecome (numbers : List ℕ) (column : Column Body) (bodies : List Body) (ranks : List ℕ) (c : Stored) : Type 0 where
  pub held : IsHeld numbers c
  pub column_is : c.tree.column ≡ column
  pub bodies_are : bodies_in c ≡ bodies
  pub ranks_are : ranks_in c ≡ ranks

-- the ranks of rows that keep their items
abbrev pub followed : Bool → List (Operation Body) → Column Body → List ℕ → List ℕ
followed same_time operations c ranks = map (carried (origins same_time operations c)) ranks

-- ---- one row more

-- what it asks for: a number above all others, a place of the tree, and room for its item and its row
pub record FitsAdd (numbers : List ℕ) (number : ℕ) (place : Place) (c : Stored) : Type 0 where
  pub held : IsHeld numbers c
  pub rise : IsIncreasing (numbers ++ number ∷ [])
  pub is_place : IsPlaceOf (size c.tree.column.tree) place
  pub few : size c.tree.column.tree < 2 ^ 31
  pub room : HasRoom c.tree.column place

-- the other rows follow their items, and the new one stands last
pub record IsAdded (same_time : Bool) (numbers : List ℕ) (number : ℕ) (place : Place) (body : Body) (before after : Stored) : Type 0 where
  pub is : HasBecome (numbers ++ number ∷ []) (apply_all same_time (Add place body ∷ []) before.tree.column) (bodies_in before ++ body ∷ []) (followed same_time (Add place body ∷ []) before.tree.column (ranks_in before) ++ rank_in place ∷ []) after

-- ---- one row fewer

-- the drop of the row at a position
abbrev pub drop_at : Stored → ℕ → List (Operation Body)
drop_at c position = Drop (rank_in_row c position) ∷ []

-- what it asks for: the other numbers with this one at its position are those of the rows, its item has a row, and the other rows' items stay
pub record FitsDrop (same_time : Bool) (numbers : List ℕ) (position number : ℕ) (c : Stored) : Type 0 where
  pub within : position ≤ length numbers
  pub held : IsHeld (insert numbers position number) c
  pub rise : IsIncreasing (insert numbers position number)
  pub has_row : 0 < count_at c.tree.column (rank_in_row c position)
  pub stay : (rank : ℕ) → holds rank (remove (ranks_in c) position) ≡ true → is_origin rank (origins same_time (drop_at c position) c.tree.column) ≡ true

-- the row at a position is gone, and the others follow their items
pub record IsDropped (same_time : Bool) (numbers : List ℕ) (position : ℕ) (before after : Stored) : Type 0 where
  pub is : HasBecome numbers (apply_all same_time (drop_at before position) before.tree.column) (remove (bodies_in before) position) (followed same_time (drop_at before position) before.tree.column (remove (ranks_in before) position)) after

-- ---- a balanced tree

pub record IsLaid (same_time : Bool) (numbers : List ℕ) (before after : Stored) : Type 0 where
  pub is : HasBecome numbers (apply_all same_time (Lay ∷ []) before.tree.column) (bodies_in before) (followed same_time (Lay ∷ []) before.tree.column (ranks_in before)) after
