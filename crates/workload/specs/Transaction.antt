-- A transaction: its statements in order on a copy of the database that it began from, up to the first that meets a
-- full table. The definition is our own.
use Rattle.std.specs.Prelude.{Bool, true, false, ltb, List, [], ◌∷◌, ◌++◌}
use Rattle.mope_base.specs.declared.numbers.TableNo.{TableNo}
use Rattle.workload.specs.declared.plain.PlainDb.{PlainDb}
use Rattle.workload.specs.declared.script.Act.{Act}
use Rattle.workload.specs.declared.script.Act.TheVariants as act
use Rattle.workload.specs.declared.script.Answer.{Answer}
use Rattle.workload.specs.declared.script.Answer.TheVariants as answer
use Rattle.workload.specs.declared.script.End.{End}
use Rattle.workload.specs.declared.script.End.TheVariants as end
use Rattle.workload.specs.Outcome.{Outcome, full, answered, outcome_of}

-- what a transaction has done: its answers, its copy, its ops (the statements that changed the copy) and the tables
-- that it touched (those that its statements named)
pub record Work : Type 0 where
  pub answers : List Answer
  pub copy : PlainDb
  pub ops : List Act
  pub touched : List TableNo

-- a transaction runs on, or an INSERT of it met this full table
pub data Trial : Type 0 where
  going : Work → Trial
  stopped : TableNo → Work → Trial

-- the table that a statement names
unfoldable pub table_named : Act → TableNo
table_named (act.Insert t values) = t
table_named (act.Ask ask) = ask.table

-- a statement with this answer changed the database: an INSERT, or a DELETE that took a row
unfoldable pub is_op : Answer → Bool
is_op answer.Inserted = true
is_op (answer.Deleted count) = ltb 0 count
is_op (answer.Count count) = false
is_op (answer.Min least) = false
is_op (answer.Max greatest) = false
is_op (answer.Rows width values) = false

-- the ops, with one more if it is one
unfoldable pub with_op : Bool → List Act → Act → List Act
with_op true ops op = ops ++ op ∷ []
with_op false ops op = ops

-- a transaction at its begin
unfoldable pub started : PlainDb → Work
started db = record { answers = []; copy = db; ops = []; touched = [] }

-- a transaction after the outcome of a statement
unfoldable pub after_outcome : Work → Act → Outcome → Trial
after_outcome work statement full = stopped (table_named statement) work
after_outcome work statement (answered a db) =
    going (record {
      answers = work.answers ++ a ∷ [];
      copy = db;
      ops = with_op (is_op a) work.ops statement;
      touched = work.touched ++ table_named statement ∷ [];
    })

-- a transaction after one more statement
unfoldable pub after_act : Trial → Act → Trial
after_act (stopped t work) statement = stopped t work
after_act (going work) statement = after_outcome work statement (outcome_of work.copy statement)

-- a transaction after more statements
unfoldable pub after_acts : Trial → List Act → Trial
after_acts trial [] = trial
after_acts trial (statement ∷ statements) = after_acts (after_act trial statement) statements

-- a transaction's statements, tried on a database
unfoldable pub trial_of : PlainDb → List Act → Trial
trial_of db statements = after_acts (going (started db)) statements

unfoldable pub work_of : Trial → Work
work_of (going work) = work
work_of (stopped t work) = work

-- how a transaction ends: at once, or by a commit
pub data Wish : Type 0 where
  ends : End → Wish
  commits : Wish

-- a transaction that ran to its end: by whether it is rolled back, and its ops
unfoldable pub wish_after : Bool → List Act → Wish
wish_after true ops = ends end.RolledBack
wish_after false [] = ends end.Read
wish_after false (op ∷ ops) = commits

-- how a transaction ends, by whether its script rolls it back
unfoldable pub wish_of : Bool → Trial → Wish
wish_of rollback (stopped t work) = ends (end.Full t)
wish_of rollback (going work) = wish_after rollback work.ops
