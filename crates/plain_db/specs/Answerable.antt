-- When a statement can be answered. The conditions are our own.
use Rattle.std.specs.Prelude.{ℕ, suc, ◌<◌, ◌≤◌, List, [], ◌∷◌, length, Option, Some, None}
use Rattle.workload.specs.declared.plain.PlainRow.{PlainRow}
use Rattle.workload.specs.declared.plain.PlainTable.{PlainTable}
use Rattle.workload.specs.declared.plain.PlainDb.{PlainDb}
use Rattle.workload.specs.declared.script.Act.{Act}
use Rattle.workload.specs.declared.script.Act.TheVariants as act
use Rattle.workload.specs.declared.script.Answer.{Answer}
use Rattle.workload.specs.declared.script.Verb.{Verb}
use Rattle.workload.specs.declared.script.Verb.TheVariants as verb
use Rattle.workload.specs.PlainDatabase.{table_of}
use Rattle.workload.specs.Outcome.{Outcome, full, answered}
use Rattle.workload.specs.Transaction.{table_named}

-- a SELECT lists at most 8 columns
abbrev pub IsNarrow : Verb → Type 0
IsNarrow (verb.Rows columns order limit) = length columns ≤ 8
IsNarrow verb.Count = Unit {0}
IsNarrow (verb.Min column) = Unit {0}
IsNarrow (verb.Max column) = Unit {0}
IsNarrow verb.Delete = Unit {0}

abbrev pub IsNarrowAct : Act → Type 0
IsNarrowAct (act.Insert t values) = Unit {0}
IsNarrowAct (act.Ask ask) = IsNarrow ask.verb

-- the numbers of the rows increase, from the first number on, and stay below the next
unfoldable pub IncreaseBelow : ℕ → ℕ → List PlainRow → Type 0
IncreaseBelow first next [] = first ≤ next
IncreaseBelow first next (row ∷ rows) = (first ≤ row.number) × IncreaseBelow (suc row.number) next rows

abbrev pub IsNumbered : PlainTable → Type 0
IsNumbered table = IncreaseBelow 0 table.next table.rows

-- the statement's table is there, its rows are numbered in order, and a SELECT isn't too wide
pub record IsAnswerable (db : PlainDb) (statement : Act) : Type 0 where
  pub is_there : (table_named statement).0 < length db.tables
  pub numbered : IsNumbered (table_of db (table_named statement))
  pub narrow : IsNarrowAct statement

-- the outcome that an answer shows, with the database that is left: no answer is that of the full table
unfoldable pub outcome_shown : Option Answer → PlainDb → Outcome
outcome_shown None db = full
outcome_shown (Some a) db = answered a db
