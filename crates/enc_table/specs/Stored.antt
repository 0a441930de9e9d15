-- How the numbers of the rows and the stored columns are seen as a shelf. A cell's code tells the rank of its item.
use Rattle.std.specs.Prelude.{ℕ, false, List, [], ◌∷◌, map, get_or}
use Rattle.mope_base.specs.declared.body.Body.{Body}
use Rattle.tree_model.specs.Places.{below}
use Rattle.tree_model.specs.Columns.{Column}
use Rattle.code_changes.specs.Columns.{codes_of}
use Rattle.table_model.specs.Stores.{Kept, Shelf}
use Rattle.column_index.specs.Seen.{index_of}
use Rattle.ope_tree.specs.Seen.{empty_seen}
use Rattle.enc_table.specs.declared.cell.Cell.{Cell}
use Rattle.enc_table.specs.declared.columns.Column.{Column as Stored}

-- ---- a stored column

-- no rows and no items
unfoldable pub no_column : Stored
no_column = record { cells = []; tree = empty_seen false; index = index_of [] }

unfoldable pub stored_at : List Stored → ℕ → Stored
stored_at cs column = get_or cs column no_column

unfoldable pub codes_in : List Cell → List ℕ
codes_in cells = map (λ (cell : Cell). cell.code) cells

unfoldable pub bodies_in : Stored → List Body
bodies_in c = map (λ (cell : Cell). cell.body) c.cells

-- the rank of a code: how many of these are smaller
unfoldable pub ranks_among : List ℕ → List ℕ → List ℕ
ranks_among all codes = map (λ code. below code all) codes

-- the ranks of the items of a column's rows
unfoldable pub ranks_in : Stored → List ℕ
ranks_in c = ranks_among (codes_of c.tree.column.tree) (codes_in c.cells)

-- the rank of the row at a position
unfoldable pub rank_in_row : Stored → ℕ → ℕ
rank_in_row c position = get_or (ranks_in c) position 0

-- ---- all of them beside the numbers of the rows

-- each row with a body and a rank in front of its others
unfoldable pub joined : List Body → List ℕ → List (Kept Body) → List (Kept Body)
joined [] ranks kept = []
joined (b ∷ bodies) [] kept = []
joined (b ∷ bodies) (rank ∷ ranks) [] = []
joined (b ∷ bodies) (rank ∷ ranks) (row ∷ kept) = record { number = row.number; bodies = b ∷ row.bodies; ranks = rank ∷ row.ranks } ∷ joined bodies ranks kept

-- the rows of these numbers
unfoldable pub kept_in : List ℕ → List Stored → List (Kept Body)
kept_in numbers [] = map (λ number. record { number = number; bodies = []; ranks = [] }) numbers
kept_in numbers (c ∷ cs) = joined (bodies_in c) (ranks_in c) (kept_in numbers cs)

unfoldable pub trees_in : List Stored → List (Column Body)
trees_in cs = map (λ (c : Stored). c.tree.column) cs

unfoldable pub shelf_in : List ℕ → ℕ → List Stored → Shelf Body
shelf_in numbers next cs = record { kept = kept_in numbers cs; next = next; columns = trees_in cs }
