-- Rows by their positions in a table.
use Rattle.std.specs.Prelude.{ℕ, List, [], get_or, map}
use Rattle.workload.specs.declared.plain.PlainRow.{PlainRow}

-- what stands past the last row
unfoldable pub no_row : PlainRow
no_row = record { number = 0; values = [] }

unfoldable pub row_at : List PlainRow → ℕ → PlainRow
row_at rows i = get_or rows i no_row

-- the rows at these positions
unfoldable pub rows_at : List PlainRow → List ℕ → List PlainRow
rows_at rows positions = map (row_at rows) positions
