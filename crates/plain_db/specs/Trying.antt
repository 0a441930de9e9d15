-- How a transaction that was run stands for the work of the definition: its ops are known by their tables alone, and its
-- copy is kept nowhere.
use Rattle.std.specs.Prelude.{◌≡◌, ℕ, ◌<◌, Bool, true, false, map}
use Rattle.mope_base.specs.declared.numbers.TableNo.{TableNo}
use Rattle.workload.specs.declared.plain.PlainDb.{PlainDb}
use Rattle.workload.specs.declared.script.Act.{Act}
use Rattle.mope_base.specs.Lists.{Each}
use Rattle.workload.specs.Outcome.{Outcome, full, answered}
use Rattle.workload.specs.Transaction.{Work, Trial, going, stopped, table_named}
use Rattle.plain_db.specs.declared.trying.Tried.{Tried}
use Rattle.plain_db.specs.Answerable.{IsNumbered, IsNarrowAct}

pub record ShowsWork (tried : Tried) (work : Work) : Type 0 where
  pub answers : tried.answers ≡ work.answers
  pub ops : tried.ops ≡ map table_named work.ops
  pub touched : tried.touched ≡ work.touched

-- it runs on, or this table's INSERT met the full table
pub record Goes (tried : Tried) (trial : Trial) : Type 0 where
  pub work : Work
  pub shows : ShowsWork tried work
  pub is : trial ≡ going work

pub record Stops (t : TableNo) (tried : Tried) (trial : Trial) : Type 0 where
  pub work : Work
  pub shows : ShowsWork tried work
  pub is : trial ≡ stopped t work

-- the database that an outcome leaves
unfoldable pub left_of : PlainDb → Outcome → PlainDb
left_of old full = old
left_of old (answered a db) = db

-- an INSERT met a full table
unfoldable pub meets_full : Outcome → Bool
meets_full full = true
meets_full (answered a db) = false

-- each table's rows are numbered in order
abbrev pub AllNumbered : PlainDb → Type 0
AllNumbered db = Each IsNumbered db.tables

-- a statement names one of so many tables, and isn't too wide
pub record Fits (tables : ℕ) (statement : Act) : Type 0 where
  pub is_there : (table_named statement).0 < tables
  pub narrow : IsNarrowAct statement
