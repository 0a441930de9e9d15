-- What the rows of a shelf have in its columns: their bodies, the codes of their items, and the entries of a column's index.
use Rattle.std.specs.Prelude.{ℕ, List, [], ◌∷◌, map, get_or, slice_get, Option}
use Rattle.mope_base.specs.declared.body.Body.{Body}
use Rattle.tree_model.specs.Columns.{Column}
use Rattle.path_code.specs.Sums.{item_code}
use Rattle.table_model.specs.Stores.{Kept, Shelf}
use Rattle.table_model.specs.Changes.{of_row, ranks_of}
use Rattle.table_model.specs.Soundness.{column_at}
use Rattle.column_index.specs.declared.entry.Entry.{Entry}
use Rattle.column_index.specs.Entries.{sorted}
use Rattle.enc_table.specs.declared.cell.Cell.{Cell}

-- the bodies of the row of a number, and none where there is no such row
unfoldable pub bodies_of : ℕ → List (Kept Body) → List Body
bodies_of number kept = of_row (λ (row : Kept Body). row.number) (λ (row : Kept Body). row.bodies) number kept

-- in each column the code of the item of a rank
unfoldable pub item_codes : List (Column Body) → List ℕ → List ℕ
item_codes [] ranks = []
item_codes (c ∷ cs) [] = []
item_codes (c ∷ cs) (rank ∷ ranks) = item_code c.tree rank ∷ item_codes cs ranks

-- what the row of a number has in a column: None where there is no such row or no such column
unfoldable pub body_at : ℕ → ℕ → Shelf Body → Option Body
body_at number column s = slice_get (bodies_of number s.kept) column

unfoldable pub code_at : ℕ → ℕ → Shelf Body → Option ℕ
code_at number column s = slice_get (item_codes s.columns (ranks_of number s.kept)) column

-- the code of a row's item in a column
unfoldable pub row_code : ℕ → Shelf Body → Kept Body → ℕ
row_code column s row = item_code (column_at s.columns column).tree (get_or row.ranks column 0)

-- a body that stands for none, where a row has no such column
abbrev pub no_body : Body
no_body = record { nonce = 0; masked = 0 }

-- what each row has in a column, in the order of the rows
unfoldable pub cells_at : ℕ → Shelf Body → List Cell
cells_at column s = map (λ (row : Kept Body). record { body = get_or row.bodies column no_body; code = row_code column s row }) s.kept

-- the code and the number of each row, in the order of the rows
unfoldable pub entries_at : ℕ → Shelf Body → List Entry
entries_at column s = map (λ (row : Kept Body). record { enc = row_code column s row; row = row.number }) s.kept

-- the entries of a column's index
unfoldable pub index_at : ℕ → Shelf Body → List Entry
index_at column s = sorted (entries_at column s)
