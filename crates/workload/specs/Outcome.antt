-- What one statement answers on a plain database, and what it leaves. The definition is our own.
use Rattle.std.specs.Prelude.{ℕ, Bool, true, false, List, map, get_or}
use Rattle.mope_base.specs.declared.numbers.ColNo.{ColNo}
use Rattle.mope_base.specs.declared.numbers.TableNo.{TableNo}
use Rattle.workload.specs.declared.plain.PlainRow.{PlainRow}
use Rattle.workload.specs.declared.plain.PlainDb.{PlainDb}
use Rattle.workload.specs.declared.script.Ask.{Ask}
use Rattle.workload.specs.declared.script.Act.{Act}
use Rattle.workload.specs.declared.script.Act.TheVariants as act
use Rattle.workload.specs.declared.script.Verb.{Verb}
use Rattle.workload.specs.declared.script.Verb.TheVariants as verb
use Rattle.workload.specs.declared.script.Answer.{Answer}
use Rattle.workload.specs.declared.script.Answer.TheVariants as answer
use Rattle.workload.specs.PlainDatabase.{table_of, with_table, is_full, with_row, row_number, table_without}
use Rattle.workload.specs.Selection.{selected, answer_about}

-- the value of a row in a column
unfoldable pub value_at : ColNo → PlainRow → ℕ
value_at column row = get_or row.values column.0 0

-- the database after a verb about these rows of a table: DELETE takes them out, the others change nothing
unfoldable pub left_by : Verb → TableNo → List PlainRow → PlainDb → PlainDb
left_by (verb.Rows columns order limit) t rows db = db
left_by verb.Count t rows db = db
left_by (verb.Min column) t rows db = db
left_by (verb.Max column) t rows db = db
left_by verb.Delete t rows db = with_table db t (table_without (table_of db t) (map row_number rows))

-- a statement is answered and leaves a database, or it is an INSERT that met a full table
pub data Outcome : Type 0 where
  full : Outcome
  answered : Answer → PlainDb → Outcome

-- an INSERT, by whether the table is full
unfoldable pub inserted : Bool → PlainDb → TableNo → List ℕ → Outcome
inserted true db t values = full
inserted false db t values = answered answer.Inserted (with_table db t (with_row (table_of db t) values))

-- a statement that asks, about these rows
unfoldable pub asked : PlainDb → Ask → List PlainRow → Outcome
asked db ask rows = answered (answer_about value_at ask.verb rows) (left_by ask.verb ask.table rows db)

-- what a statement does
unfoldable pub outcome_of : PlainDb → Act → Outcome
outcome_of db (act.Insert t values) = inserted (is_full (table_of db t)) db t values
outcome_of db (act.Ask ask) = asked db ask (selected value_at ask (table_of db ask.table).rows)
