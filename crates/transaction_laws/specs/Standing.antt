-- A version of the server that stands for a version of a world: what a run keeps between its turns.
use Rattle.std.specs.Prelude.{◌≡◌, ℕ, Bool, List}
use Rattle.mope_base.specs.Lists.{Each}
use Rattle.mope_base.specs.declared.body.Body.{Body}
use Rattle.table_model.specs.Stores.{Store}
use Rattle.table_model.specs.Standing.{AllStand}
use Rattle.value_cipher.specs.Cipher.{Cell, value_of, sealed}
use Rattle.enc_table.specs.declared.stamps.Stamps.{Stamps}
use Rattle.versions.specs.Databases.{Database}
use Rattle.workload.specs.declared.script.Decl.{Decl}
use Rattle.workload.specs.PlainDatabase.{row_limit}
use Rattle.workload.specs.Validity.{IsValidDecl}
use Rattle.proxy.specs.Client.{Setting}
use Rattle.transaction_laws.specs.Queries.{AreDeclared}
use Rattle.transaction_laws.specs.Transactions.{MayRun}

-- a version of a world: its number, the mode and the limit of rows of its tables, when each was last written and balanced, and the tables
-- by value
pub record World : Type 0 where
  pub number : ℕ
  pub same_time : Bool
  pub limit : ℕ
  pub stamps : List Stamps
  pub stores : List (Store Cell)

-- all agree, and each table is the world's with its cells sealed
pub record Stands (key : List ℕ) (d : Database) (w : World) : Type 0 where
  pub number : d.number ≡ w.number
  pub mode : d.same_time ≡ w.same_time
  pub limit : d.limit ≡ w.limit
  pub stamps : d.stamps ≡ w.stamps
  pub tables : AllStand Body Cell (sealed key) value_of w.same_time w.limit d.shelves w.stores

-- a transaction may begin on a version that stands for a world, whose tables are as they are declared and take as many rows as plain ones
abbrev pub StandingRuns : Type 0
StandingRuns = (s : Setting) (tables : List Decl) (d : Database) (w : World) → Stands s.key d w → w.limit ≡ row_limit → Each IsValidDecl tables → AreDeclared tables w.stores → MayRun s tables d w.stores
