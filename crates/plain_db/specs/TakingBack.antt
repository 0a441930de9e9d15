-- How what statements changed is taken back.
use Rattle.std.specs.Prelude.{ℕ, Bool, leb, ◌-◌, ◌++◌, List, [], ◌∷◌, take, length}
use Rattle.mope_base.specs.declared.numbers.TableNo.{TableNo}
use Rattle.workload.specs.declared.plain.PlainRow.{PlainRow}
use Rattle.workload.specs.declared.plain.PlainTable.{PlainTable}
use Rattle.workload.specs.declared.plain.PlainDb.{PlainDb}
use Rattle.workload.specs.Selection.{ordered}
use Rattle.workload.specs.PlainDatabase.{table_of, with_table}
use Rattle.plain_db.specs.declared.taking_back.Undo.{Undo}
use Rattle.plain_db.specs.declared.taking_back.Undo.TheVariants as undo

-- one row doesn't come after the other by number
unfoldable pub by_number : PlainRow → PlainRow → Bool
by_number a b = leb a.number b.number

-- the table before its last row came
unfoldable pub without_last : PlainTable → PlainTable
without_last table = record { rows = take (length table.rows - 1) table.rows; next = table.next - 1 }

-- the table with these rows too, in the order of the numbers
unfoldable pub with_rows : PlainTable → List PlainRow → PlainTable
with_rows table rows = record { rows = ordered by_number (table.rows ++ rows); next = table.next }

-- what takes the deletion of these rows back; nothing where there are none
unfoldable pub undo_by : TableNo → List PlainRow → Undo
undo_by t [] = undo.Nothing
undo_by t (row ∷ rows) = undo.Delete t (row ∷ rows)

-- the database before a statement
unfoldable pub undone : Undo → PlainDb → PlainDb
undone undo.Nothing db = db
undone (undo.Insert t) db = with_table db t (without_last (table_of db t))
undone (undo.Delete t rows) db = with_table db t (with_rows (table_of db t) rows)

-- the database before statements, the last taken back first
unfoldable pub all_undone : List Undo → PlainDb → PlainDb
all_undone [] db = db
all_undone (one ∷ undos) db = undone one (all_undone undos db)
