-- Versions of a world: the first one, and those that a commit and an install make of one, with what they do to the codes of each column.
use Rattle.std.specs.Prelude.{ℕ, suc, Bool, ◌==◌, List, [], ◌∷◌, ◌++◌, map, length}
use Rattle.mope_base.specs.declared.numbers.SessionNo.{SessionNo}
use Rattle.tree_model.specs.Items.{change_at}
use Rattle.tree_model.specs.Columns.{Column, Operation, Lay}
use Rattle.path_code.specs.Sums.{sum_of}
use Rattle.table_model.specs.Stores.{Store, empty_store, shelf_of}
use Rattle.table_model.specs.Steps.{only}
use Rattle.table_model.specs.Operations.{ValueOp, ops_on, install_on, steps_if, ops_steps, placed_ops}
use Rattle.value_cipher.specs.Cipher.{Cell, value_of}
use Rattle.enc_table.specs.Seen.{no_stamps}
use Rattle.versions.specs.declared.change.ColumnChange.{ColumnChange}
use Rattle.versions.specs.Databases.{Database, first_database}
use Rattle.versions.specs.Operations.{stamped, laid_at}
use Rattle.versions.specs.Changes.{listed}
use Rattle.workload.specs.declared.script.Decl.{Decl}
use Rattle.workload.specs.declared.script.Workload.{Workload}
use Rattle.workload.specs.PlainDatabase.{row_limit}
use Rattle.proxy.specs.Client.{Setting}
use Rattle.transaction_laws.specs.Standing.{World}

-- what a run is given beside its workload: the key, the first nonce, and whether its tables are in same-time mode
pub record RunSetting : Type 0 where
  pub key : List ℕ
  pub first : ℕ
  pub same_time : Bool

-- what stays for one session of it
unfoldable pub session_setting : RunSetting → SessionNo → Setting
session_setting s n = record { key = s.key; first = s.first; session = n }

-- how many columns each table has
unfoldable pub widths_of : Workload → List ℕ
widths_of w = map (λ (d : Decl). length d.columns) w.tables

-- ---- before the first turn

-- the world's first version has the declared tables without rows
unfoldable pub first_world : RunSetting → Workload → World
first_world s w = record {
  number = 0;
  same_time = s.same_time;
  limit = row_limit;
  stamps = map (λ (_ : ℕ). no_stamps) (widths_of w);
  stores = map (empty_store Cell) (widths_of w);
}

-- and so has the server's
unfoldable pub first_version : RunSetting → Workload → Database
first_version s w = first_database (widths_of w) s.same_time row_limit

-- ---- a commit and an install

-- the operations one after the other, by value, and the number one higher
unfoldable pub world_with_ops : List (ValueOp Cell) → World → World
world_with_ops ops w = record {
  number = suc w.number;
  same_time = w.same_time;
  limit = w.limit;
  stamps = stamped (suc w.number) (placed_ops w.same_time value_of ops w.stores) w.stamps;
  stores = ops_on w.same_time value_of ops w.stores;
}

-- the tree of one column of one table balanced, and the number one higher
unfoldable pub world_with_install : ℕ → ℕ → World → World
world_with_install table column w = record {
  number = suc w.number;
  same_time = w.same_time;
  limit = w.limit;
  stamps = change_at (laid_at (suc w.number)) w.stamps table;
  stores = install_on w.same_time table column w.stores;
}

-- ---- what they do to the codes

-- the sum of each column's list of operations, from a column of a table on; a column whose codes all stay isn't listed
unfoldable pub column_sums : Bool → ℕ → ℕ → List (List (Operation Cell)) → List (Column Cell) → List ColumnChange
column_sums same_time table column [] cs = []
column_sums same_time table column (operations ∷ more) [] = []
column_sums same_time table column (operations ∷ more) (c ∷ cs) =
    listed table column (sum_of same_time operations c) (column_sums same_time table (suc column) more cs)

-- the same from a table on, where `steps` tells the lists of each table's columns
unfoldable pub table_sums : Bool → (ℕ → List (List (Operation Cell))) → ℕ → List (Store Cell) → List ColumnChange
table_sums same_time steps table [] = []
table_sums same_time steps table (t ∷ stores) = column_sums same_time table 0 (steps table) t.columns ++ table_sums same_time steps (suc table) stores

-- of a commit's operations: all of those on a column, in order, are one list
unfoldable pub commit_sums : List (ValueOp Cell) → World → List ColumnChange
commit_sums ops w =
    table_sums w.same_time (λ table. ops_steps w.same_time table (placed_ops w.same_time value_of ops w.stores) (map (shelf_of value_of) w.stores)) 0 w.stores

-- of an install
unfoldable pub install_sums : ℕ → ℕ → World → List ColumnChange
install_sums table column w = table_sums w.same_time (λ t. steps_if (t == table) (only column (Lay ∷ []))) 0 w.stores
