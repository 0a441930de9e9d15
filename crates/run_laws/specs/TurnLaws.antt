-- One turn takes a version that stands for a world to one that stands: the statements of laws that this crate's functions without a body prove.
use Rattle.std.specs.Prelude.{◌≡◌, ℕ, ◌<◌, Bool, true, false, ◌||◌, ◌==◌, List, [], ◌∷◌, length, get_or}
use Rattle.table_model.specs.Stores.{Store, empty_store}
use Rattle.table_model.specs.Soundness.{Same}
use Rattle.table_model.specs.Operations.{ValueOp, InsertCells, DeleteRows, AllSound}
use Rattle.table_model.specs.Fitting.{AllFit, AllFitAt}
use Rattle.value_cipher.specs.Cipher.{Cell, value_of}
use Rattle.versions.specs.declared.op.Op.{Op}
use Rattle.versions.specs.Databases.{Database}
use Rattle.versions.specs.Operations.{rank_ops, with_ops, with_install}
use Rattle.versions.specs.Changes.{ops_changes, install_changes}
use Rattle.workload.specs.declared.script.Workload.{Workload}
use Rattle.transaction_laws.specs.Standing.{World, Stands}
use Rattle.transaction_laws.specs.Transactions.{kept_ops}
use Rattle.run_laws.specs.Worlds.{RunSetting, first_world, first_version, world_with_ops, world_with_install, commit_sums, install_sums}

-- ---- the first version

abbrev pub FirstStands : Type 0
FirstStands = (s : RunSetting) (w : Workload) → Stands s.key (first_version s w) (first_world s w)

-- ---- a commit

unfoldable pub store_in : List (Store Cell) → ℕ → Store Cell
store_in stores table = get_or stores table (empty_store Cell 0)

-- the table that an operation is on
unfoldable pub table_written : ValueOp Cell → ℕ
table_written (InsertCells table cells) = table
table_written (DeleteRows table numbers) = table

-- one of the operations is on this table
unfoldable pub is_on : List (ValueOp Cell) → ℕ → Bool
is_on [] table = false
is_on (op ∷ ops) table = (table_written op == table) || is_on ops table

-- two versions have as many tables, and those of these are the same but for balance
pub record SameOn (on : ℕ → Bool) (base stores : List (Store Cell)) : Type 0 where
  pub many : length base ≡ length stores
  pub same : (table : ℕ) → table < length base → on table ≡ true → Same Cell (store_in base table) (store_in stores table)

-- the tables that operations are on
abbrev pub SameAt : List (ValueOp Cell) → List (Store Cell) → List (Store Cell) → Type 0
SameAt ops base stores = SameOn (is_on ops) base stores

-- the operations of a transaction, at the places by its base, fit the version that stands for the current world, where they have the same
-- places; the next version stands for the next world, and its changes are the world's sums
pub record CommitGoes (key : List ℕ) (ops : List (ValueOp Cell)) (base : List (Store Cell)) (d : Database) (w : World) : Type 0 where
  pub fit : AllFitAt d.same_time d.limit (rank_ops (kept_ops key w.same_time ops base)) d.shelves
  pub places : (let kept : List Op = kept_ops key w.same_time ops base in kept) ≡ kept_ops key w.same_time ops w.stores
  pub stands : Stands key (with_ops (rank_ops (kept_ops key w.same_time ops base)) d) (world_with_ops ops w)
  pub changes : ops_changes (rank_ops (kept_ops key w.same_time ops base)) d ≡ commit_sums ops w

-- though the base may be earlier, where the tables that the operations are on were only balanced since
abbrev pub CommitStands : Type 0
CommitStands = (key : List ℕ) (ops : List (ValueOp Cell)) (base : List (Store Cell)) (d : Database) (w : World) → Stands key d w → AllSound value_of w.same_time w.limit base → SameAt ops base w.stores → AllFit w.same_time value_of w.limit ops base → CommitGoes key ops base d w

-- ---- an install

pub record InstallGoes (key : List ℕ) (table column : ℕ) (d : Database) (w : World) : Type 0 where
  pub stands : Stands key (with_install table column d) (world_with_install table column w)
  pub changes : install_changes table column d ≡ install_sums table column w

abbrev pub InstallStands : Type 0
InstallStands = (key : List ℕ) (table column : ℕ) (d : Database) (w : World) → Stands key d w → InstallGoes key table column d w
