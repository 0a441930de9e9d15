-- The plain database: per table its rows in clear. The definition is our own.
use Rattle.std.specs.Prelude.{ℕ, suc, ◌^◌, Bool, ◌||◌, leb, List, [], ◌∷◌, ◌++◌, map, length, get_or, set}
use Rattle.mope_base.specs.declared.numbers.TableNo.{TableNo}
use Rattle.workload.specs.declared.plain.PlainRow.{PlainRow}
use Rattle.workload.specs.declared.plain.PlainTable.{PlainTable}
use Rattle.workload.specs.declared.plain.PlainDb.{PlainDb}
use Rattle.workload.specs.declared.script.Decl.{Decl}
use Rattle.workload.specs.Selection.{without_rows}

-- a table without rows, whose first row gets the number 1
unfoldable pub empty_table : PlainTable
empty_table = record { rows = []; next = 1 }

-- a database with an empty table for each declaration
unfoldable pub empty_database : List Decl → PlainDb
empty_database declarations = record { tables = map (λ _. empty_table) declarations }

-- the table of a number
unfoldable pub table_of : PlainDb → TableNo → PlainTable
table_of db t = get_or db.tables t.0 empty_table

-- the database with this table in the place of that number's
unfoldable pub with_table : PlainDb → TableNo → PlainTable → PlainDb
with_table db t table = record { tables = set db.tables t.0 table }

-- the most rows that a table has at one time
abbrev pub row_limit : ℕ
row_limit = 65536

-- a table takes no further row: it has as many as it may, or the numbers of its rows are used up
unfoldable pub is_full : PlainTable → Bool
is_full table = leb row_limit (length table.rows) || leb (2 ^ 63) table.next

-- the table with a row of these values at its end, under the next number
unfoldable pub with_row : PlainTable → List ℕ → PlainTable
with_row table values =
    record { rows = table.rows ++ record { number = table.next; values = values } ∷ []; next = suc table.next }

-- the number of a row
abbrev pub row_number : PlainRow → ℕ
row_number row = row.number

-- the table without the rows of these numbers; its next number stays, so that none is used again
unfoldable pub table_without : PlainTable → List ℕ → PlainTable
table_without table numbers = record { rows = without_rows row_number numbers table.rows; next = table.next }
