-- Cells of which those of some rows have another code.
use Rattle.std.specs.Prelude.{◌≡◌, ℕ, suc, zero, ◌+◌, ◌-◌, Bool, true, false, ◌==◌, ◌||◌, List, [], ◌∷◌, map, take, drop, get_or}
use Rattle.std.specs.List.{AllWithin}
use Rattle.path_code.specs.declared.moves.Recode.{Recode}
use Rattle.code_changes.specs.Changes.{new_code}
use Rattle.column_index.specs.declared.entry.Entry.{Entry}
use Rattle.column_index.specs.Entries.{holds_entry, codes_in}
use Rattle.column_index.specs.Fronts.{BeginFrom}
use Rattle.enc_table.specs.declared.cell.Cell.{Cell}
use Rattle.enc_table.specs.Held.{moved_cell}

unfoldable pub coded_if : Bool → ℕ → Cell → Cell
coded_if true code cell = record { body = cell.body; code = code }
coded_if false code cell = cell

-- the cells of the rows of some numbers with this code
unfoldable pub marked : (ℕ → Bool) → ℕ → List ℕ → List Cell → List Cell
marked among code [] cells = cells
marked among code (number ∷ numbers) [] = []
marked among code (number ∷ numbers) (cell ∷ cells) = coded_if (among number) code cell ∷ marked among code numbers cells

-- the number is this one
unfoldable pub is_number : ℕ → ℕ → Bool
is_number number other = number == other

unfoldable pub row_at : List Entry → ℕ → ℕ
row_at entries place = (get_or entries place (record { enc = 0; row = 0 })).row

-- one of so many entries from a place on is of this row
unfoldable pub is_row_within : List Entry → ℕ → ℕ → ℕ → Bool
is_row_within entries first zero number = false
is_row_within entries first (suc count) number = (row_at entries (first + count) == number) || is_row_within entries first count number

-- the row of a number has this code by the entries
unfoldable pub has_code : List Entry → ℕ → ℕ → Bool
has_code entries code number = holds_entry (record { enc = code; row = number }) entries

-- the rows of the entries from `start` to a place, all with the code `old`, have got the code `new`
pub record AreMarked (old new : ℕ) (entries : List Entry) (start place : ℕ) (numbers : List ℕ) (before now : List Cell) : Type 0 where
  pub same : AllWithin (λ e. e.enc ≡ old) entries start place
  pub cells : now ≡ marked (is_row_within entries start (place - start)) new numbers before

-- the rows of so many pairs have got their new codes, and the entries of the other pairs don't begin before a place
pub record AreRecoded (moved : List Recode) (count : ℕ) (entries : List Entry) (place : ℕ) (before now : List Cell) : Type 0 where
  pub cells : now ≡ map (moved_cell (new_code (take count moved))) before
  pub ahead : BeginFrom place (codes_in entries) (drop count moved)
