-- The operations of a transaction on the tables of a version, and the versions that a commit and an install make of one.
use Rattle.std.specs.Prelude.{ℕ, suc, ◌<◌, ◌^◌, Bool, List, [], ◌∷◌, length, map}
use Rattle.mope_base.specs.declared.body.Body.{Body}
use Rattle.tree_model.specs.Items.{change_at}
use Rattle.table_model.specs.Stores.{Shelf}
use Rattle.table_model.specs.Operations.{RankOp, InsertAt, DeleteAt, rank_op_on, rank_ops_on, rank_install_on, shelf_at}
use Rattle.table_model.specs.Fitting.{AllFitAt}
use Rattle.enc_table.specs.declared.stamps.Stamps.{Stamps}
use Rattle.versions.specs.declared.op.Op.{Op}
use Rattle.versions.specs.declared.op.Op.TheVariants.{Insert, Delete}
use Rattle.versions.specs.Databases.{Database}

-- an operation by rank
unfoldable pub rank_op : Op → RankOp Body
rank_op (Insert table places bodies) = InsertAt table.0 places bodies
rank_op (Delete table rows) = DeleteAt table.0 rows

unfoldable pub rank_ops : List Op → List (RankOp Body)
rank_ops ops = map rank_op ops

-- the table that an operation is on
unfoldable pub op_table : {B : Type 0} → RankOp B → ℕ
op_table (InsertAt table places bodies) = table
op_table (DeleteAt table numbers) = table

-- ---- a commit

unfoldable pub written_at : ℕ → Stamps → Stamps
written_at number stamps = record { written = number; laid = stamps.laid }

-- each table that one of the operations is on was last written at this number
unfoldable pub stamped : {B : Type 0} → ℕ → List (RankOp B) → List Stamps → List Stamps
stamped number [] stamps = stamps
stamped number (op ∷ ops) stamps = stamped number ops (change_at (written_at number) stamps (op_table op))

-- the operations one after the other, and the number one higher
unfoldable pub with_ops : List (RankOp Body) → Database → Database
with_ops ops d = record {
  number = suc d.number;
  same_time = d.same_time;
  limit = d.limit;
  shelves = rank_ops_on d.same_time ops d.shelves;
  stamps = stamped (suc d.number) ops d.stamps;
}

-- ---- an install

unfoldable pub laid_at : ℕ → Stamps → Stamps
laid_at number stamps = record { written = stamps.written; laid = number }

-- the tree of one column of one table balanced, and the number one higher
unfoldable pub with_install : ℕ → ℕ → Database → Database
with_install table column d = record {
  number = suc d.number;
  same_time = d.same_time;
  limit = d.limit;
  shelves = rank_install_on d.same_time table column d.shelves;
  stamps = change_at (laid_at (suc d.number)) d.stamps table;
}

-- ---- when operations fit

-- the row of an INSERT has a number below 2^63
unfoldable pub HasNumber : {B : Type 0} → RankOp B → List (Shelf B) → Type 0
HasNumber (InsertAt table places bodies) shelves = (shelf_at shelves table).next < 2 ^ 63
HasNumber (DeleteAt table numbers) shelves = Unit {0}

-- each as the operations before it leave the tables
unfoldable pub AllHaveNumbers : {B : Type 0} → Bool → List (RankOp B) → List (Shelf B) → Type 0
AllHaveNumbers same_time [] shelves = Unit {0}
AllHaveNumbers same_time (op ∷ ops) shelves = HasNumber op shelves × AllHaveNumbers same_time ops (rank_op_on same_time op shelves)

-- each operation's table, places, rows and widths are there when its turn comes, and no table passes its limit
pub record OpsFit (ops : List (RankOp Body)) (d : Database) : Type 0 where
  pub fit : AllFitAt d.same_time d.limit ops d.shelves
  pub numbered : AllHaveNumbers d.same_time ops d.shelves

-- there is this column of this table
pub record HasColumn (table column : ℕ) (d : Database) : Type 0 where
  pub table_there : table < length d.shelves
  pub column_there : column < length (shelf_at d.shelves table).columns
