-- What a client has to do for its script: each transaction is a list of tasks, and each task is a request or a walk. The definition is our own.
use Rattle.std.specs.Prelude.{ℕ, suc, ◌%◌, Bool, true, false, List, [], ◌∷◌, ◌++◌, map, Option, Some, None}
use Rattle.mope_base.specs.declared.numbers.TableNo.{TableNo}
use Rattle.mope_base.specs.declared.numbers.ColNo.{ColNo}
use Rattle.sql_text.specs.declared.Test.{Test}
use Rattle.sql_text.specs.declared.Test.TheVariants as test
use Rattle.walk_proto.specs.declared.messages.Asked.{Asked}
use Rattle.workload.specs.declared.script.Act.{Act}
use Rattle.workload.specs.declared.script.Act.TheVariants as act
use Rattle.workload.specs.declared.script.Ask.{Ask}
use Rattle.workload.specs.declared.script.Piece.{Piece}
use Rattle.workload.specs.declared.script.Piece.TheVariants as piece
use Rattle.workload.specs.declared.script.Verb.{Verb}
use Rattle.workload.specs.declared.script.Verb.TheVariants as verb
use Rattle.workload.specs.Transaction.{table_named}

-- a task of a transaction: it begins; the place of a constant in a column is looked for; a row of these values is put in at the
-- places found; a statement is asked about the places found; it ends, rolled back where the flag says so, its statements being
-- these; a tree is rebuilt
pub data Task : Type 0 where
  opens : Task
  looks : TableNo → ColNo → ℕ → Task
  puts_row : TableNo → List ℕ → Task
  asks : Ask → Task
  closes : Bool → List Act → Task
  rebuilds : TableNo → ColNo → Task

-- the constants of a test, the low end of BETWEEN first
unfoldable pub constants_in : Test → List ℕ
constants_in (test.Eq c) = c ∷ []
constants_in (test.Lt c) = c ∷ []
constants_in (test.Le c) = c ∷ []
constants_in (test.Gt c) = c ∷ []
constants_in (test.Ge c) = c ∷ []
constants_in (test.Between low high) = low ∷ high ∷ []

-- the constants of a condition, each with the condition's column
unfoldable pub constants_with : ColNo × Test → List (ColNo × ℕ)
constants_with condition = map (λ (c : ℕ). (condition.0, c)) (constants_in condition.1)

-- the column of a place in a row; a column's number is a byte
unfoldable pub column_at : ℕ → ColNo
column_at place = record { 0 = place % 256 }

-- the values of a row from a place on, each with its column
unfoldable pub values_from : ℕ → List ℕ → List (ColNo × ℕ)
values_from place [] = []
values_from place (x ∷ xs) = (column_at place, x) ∷ values_from (suc place) xs

-- the constants of conditions in their order
unfoldable pub constants_all : List (ColNo × Test) → List (ColNo × ℕ)
constants_all [] = []
constants_all (condition ∷ conditions) = constants_with condition ++ constants_all conditions

-- the constants of a statement in their order, each with its column
unfoldable pub constants_of : Act → List (ColNo × ℕ)
constants_of (act.Insert t values) = values_from 0 values
constants_of (act.Ask ask) = constants_all ask.tests

-- the task of a statement whose constants have their places
unfoldable pub does : Act → Task
does (act.Insert t values) = puts_row t values
does (act.Ask ask) = asks ask

-- walks for these constants in a table, before other tasks
unfoldable pub looks_then : TableNo → List (ColNo × ℕ) → List Task → List Task
looks_then t [] later = later
looks_then t (constant ∷ constants) later = looks t constant.0 constant.1 ∷ looks_then t constants later

-- a statement, before other tasks: a walk for each constant, then the statement
unfoldable pub act_then : Act → List Task → List Task
act_then a later = looks_then (table_named a) (constants_of a) (does a ∷ later)

-- statements in their order, before other tasks
unfoldable pub acts_then : List Act → List Task → List Task
acts_then [] later = later
acts_then (a ∷ acts) later = act_then a (acts_then acts later)

-- the statements of a transaction of a script
unfoldable pub acts_of : Piece → List Act
acts_of (piece.Txn acts rollback) = acts
acts_of (piece.Rebuild t column) = []

-- its last task
unfoldable pub last_task : Piece → Task
last_task (piece.Txn acts rollback) = closes rollback acts
last_task (piece.Rebuild t column) = rebuilds t column

-- its tasks: it begins, does its statements, and ends
unfoldable pub tasks_of : Piece → List Task
tasks_of p = opens ∷ acts_then (acts_of p) (last_task p ∷ [])

-- the bytes of a statement that asks
unfoldable pub verb_byte : Verb → ℕ
verb_byte (verb.Rows columns order limit) = 0
verb_byte verb.Count = 1
verb_byte (verb.Min column) = 2
verb_byte (verb.Max column) = 3
verb_byte verb.Delete = 4

unfoldable pub target_byte : Verb → ℕ
target_byte (verb.Rows columns order limit) = 0
target_byte verb.Count = 0
target_byte (verb.Min column) = column.0
target_byte (verb.Max column) = column.0
target_byte verb.Delete = 0

-- the order of a SELECT of rows
unfoldable pub order_in : Verb → Option (ColNo × Bool)
order_in (verb.Rows columns order limit) = order
order_in verb.Count = None
order_in (verb.Min column) = None
order_in (verb.Max column) = None
order_in verb.Delete = None

unfoldable pub direction_byte : Bool → ℕ
direction_byte false = 1
direction_byte true = 2

unfoldable pub order_byte : Option (ColNo × Bool) → ℕ
order_byte None = 0
order_byte (Some order) = direction_byte order.1

unfoldable pub order_column_byte : Option (ColNo × Bool) → ℕ
order_column_byte None = 0
order_column_byte (Some order) = order.0.0

unfoldable pub limit_in : Verb → Option ℕ
limit_in (verb.Rows columns order limit) = limit
limit_in verb.Count = None
limit_in (verb.Min column) = None
limit_in (verb.Max column) = None
limit_in verb.Delete = None

unfoldable pub column_bytes : Verb → List ℕ
column_bytes (verb.Rows columns order limit) = map (λ (column : ColNo). column.0) columns
column_bytes verb.Count = []
column_bytes (verb.Min column) = []
column_bytes (verb.Max column) = []
column_bytes verb.Delete = []

unfoldable pub test_byte : Test → ℕ
test_byte (test.Eq c) = 0
test_byte (test.Lt c) = 1
test_byte (test.Le c) = 2
test_byte (test.Gt c) = 3
test_byte (test.Ge c) = 4
test_byte (test.Between low high) = 5

-- a condition as it is sent: its constants stand in the places that the walks found
unfoldable pub cond_bytes : ColNo × Test → ℕ × ℕ
cond_bytes condition = (condition.0.0, test_byte condition.1)

-- a statement as it is sent, without its constants
unfoldable pub asked_of : Ask → Asked
asked_of ask = record {
  table = ask.table;
  verb = verb_byte ask.verb;
  target = target_byte ask.verb;
  order = order_byte (order_in ask.verb);
  order_column = order_column_byte (order_in ask.verb);
  limit = limit_in ask.verb;
  columns = column_bytes ask.verb;
  conds = map cond_bytes ask.tests;
}
