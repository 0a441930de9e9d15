-- A connection as the value of its parts, and what is true of them.
use Rattle.std.specs.Prelude.{◌≡◌, ◌≢◌, ◌||◌, leb, ℕ, zero, suc, ◌+◌, ◌<◌, ◌≤◌, Bool, true, false, List, [], ◌∷◌, ◌++◌, map, length, get_or, Option, Some, None, vec_capacity}
use Rattle.mope_base.specs.declared.body.Body.{Body}
use Rattle.mope_base.specs.declared.numbers.TableNo.{TableNo}
use Rattle.mope_base.specs.Lists.{Each}
use Rattle.tree_model.specs.Trees.{Tree, size, IsPlaceOf}
use Rattle.tree_model.specs.Insertion.{tree_at}
use Rattle.tree_model.specs.Items.{Item}
use Rattle.tree_model.specs.Parts.{before, IsWay}
use Rattle.path_code.specs.Ways.{way}
use Rattle.table_model.specs.Stores.{Shelf}
use Rattle.table_model.specs.Operations.{shelf_at, rank_ops_on}
use Rattle.table_model.specs.Soundness.{column_at}
use Rattle.ope_tree.specs.Cursors.{IsCursorAt}
use Rattle.enc_table.specs.Seen.{Seen as Table, IsTable}
use Rattle.versions.specs.declared.op.Op.{Op}
use Rattle.versions.specs.Databases.{Database, IsDatabase, IsMember}
use Rattle.versions.specs.Operations.{rank_ops}
use Rattle.walk_proto.specs.declared.messages.Reply.TheVariants as reply
use Rattle.server_conn.specs.declared.came.Came.{Came}
use Rattle.server_conn.specs.declared.came.Came.TheVariants as came
use Rattle.server_conn.specs.declared.came.Due.{Due as Turn}
use Rattle.server_conn.specs.declared.came.Due.TheVariants as turn
use Rattle.server_conn.specs.declared.stage.Stage.{Stage}
use Rattle.server_conn.specs.declared.stage.Stage.TheVariants as stage
use Rattle.server_conn.specs.declared.txn.Mark.{Mark as Placed}
use Rattle.server_conn.specs.declared.txn.Txn.{Txn}
use Rattle.server_conn.specs.declared.txn.Walk.{Walk as Going}
use Rattle.server_conn.specs.Connections.{Mark, Walk, Held, Due, commit, install, Conn, idle, begins, holds, awaits, replies, wants_commit, wants_install, Step}
use Rattle.server_conn.specs.Handling.{IsDone, IsReady}
use Rattle.server_conn.specs.Serving.{step_to}

-- ---- a transaction

-- a transaction's own table, where it has one, in place of the version's
unfoldable pub own_or : Option Table → Shelf Body → Shelf Body
own_or None s = s
own_or (Some own) s = own.shelf

unfoldable pub laid_over : List (Option Table) → List (Shelf Body) → List (Shelf Body)
laid_over [] shelves = shelves
laid_over (own ∷ owns) [] = []
laid_over (own ∷ owns) (s ∷ shelves) = own_or own s ∷ laid_over owns shelves

-- the tree of a column of one of these tables
unfoldable pub tree_in : List (Shelf Body) → ℕ → ℕ → Tree (Item Body)
tree_in shelves table column = (column_at (shelf_at shelves table).columns column).tree

unfoldable pub mark_of : Placed → Mark
mark_of m = record { table = m.table.0; column = m.column.0; place = m.place }

-- a walk as the part of the tree at the end of its way
unfoldable pub walk_of : List (Shelf Body) → Going → Walk
walk_of shelves w = record {
  table = w.table.0;
  column = w.column.0;
  before = before (way w.path) (tree_in shelves w.table.0 w.column.0);
  part = tree_at (way w.path) (tree_in shelves w.table.0 w.column.0);
}

unfoldable pub walk_if : List (Shelf Body) → Option Going → Option Walk
walk_if shelves None = None
walk_if shelves (Some w) = Some (walk_of shelves w)

-- its tables as it sees them
unfoldable pub shelves_in : Txn → List (Shelf Body)
shelves_in t = laid_over t.own.items t.base.shelves

unfoldable pub held_in : Txn → Held
held_in t = record {
  base = t.base;
  shelves = shelves_in t;
  touched = t.touched.items;
  ops = t.ops.items;
  marks = map mark_of t.marks.items;
  walk = walk_if (shelves_in t) t.walk;
}

-- without an open walk
unfoldable pub shut : Txn → Txn
shut t = record t { walk = None }

-- one of these numbers is none of a column of a table so wide
unfoldable pub lacks_in : ℕ → List ℕ → Bool
lacks_in width [] = false
lacks_in width (column ∷ columns) = leb width column || lacks_in width columns

-- ---- what is true of it

-- an own table is one of the version's mode and limit
unfoldable pub IsOwn : Bool → ℕ → Option Table → Type 0
IsOwn same_time limit None = Unit {0}
IsOwn same_time limit (Some own) = IsMember same_time limit own

-- a place is one of its column's tree
pub record IsMarkIn (shelves : List (Shelf Body)) (m : Placed) : Type 0 where
  pub table_there : m.table.0 < length shelves
  pub column_there : m.column.0 < length (shelf_at shelves m.table.0).columns
  pub is_place : IsPlaceOf (size (tree_in shelves m.table.0 m.column.0)) m.place

-- a walk's way leads to an item, at which it stands in its share of the column's tree
pub record IsWalkIn (shelves : List (Shelf Body)) (w : Going) : Type 0 where
  pub table_there : w.table.0 < length shelves
  pub column_there : w.column.0 < length (shelf_at shelves w.table.0).columns
  pub shares : w.tree.column ≡ column_at (shelf_at shelves w.table.0).columns w.column.0
  pub stands : IsCursorAt w.tree (way w.path) w.cursor
  pub is_way : IsWay (way w.path) (tree_in shelves w.table.0 w.column.0)
  pub some : 0 < size (tree_at (way w.path) (tree_in shelves w.table.0 w.column.0))

-- an open walk has room for its place, where there is room for so many and there are so many
pub record IsOpen (shelves : List (Shelf Body)) (marks places : ℕ) (w : Going) : Type 0 where
  pub goes : IsWalkIn shelves w
  pub room : marks < places

unfoldable pub IsWalkIf : List (Shelf Body) → ℕ → ℕ → Option Going → Type 0
IsWalkIf shelves marks room None = Unit {0}
IsWalkIf shelves marks room (Some w) = IsOpen shelves marks room w

pub record IsTxn (t : Txn) : Type 0 where
  pub database : IsDatabase t.base
  pub few : length t.own.items ≤ length t.base.shelves
  pub own : Each (IsOwn t.base.same_time t.base.limit) t.own.items
  pub made : shelves_in t ≡ rank_ops_on t.base.same_time (rank_ops t.ops.items) t.base.shelves
  pub done : IsDone t.base t.touched.items t.ops.items
  pub marks : Each (IsMarkIn (shelves_in t)) t.marks.items
  pub walk : IsWalkIf (shelves_in t) (length t.marks.items) (vec_capacity t.marks) t.walk

-- the own tables are the same at each place, whatever room there is
pub record IsSameOwn (owns others : List (Option Table)) : Type 0 where
  pub each : (i : ℕ) → get_or others i None ≡ get_or owns i None

-- all but the own tables is as it was
pub record IsElse (t u : Txn) : Type 0 where
  pub base : u.base ≡ t.base
  pub touched : u.touched ≡ t.touched
  pub ops : u.ops ≡ t.ops
  pub marks : u.marks ≡ t.marks
  pub walk : u.walk ≡ t.walk

-- there is a place for each own table, and the one at this place may be gone
pub record IsTaken (table : ℕ) (t u : Txn) : Type 0 where
  pub rest : IsElse t u
  pub many : length u.own.items ≡ length t.base.shelves
  pub others : (i : ℕ) → i ≢ table → get_or u.own.items i None ≡ get_or t.own.items i None

-- a statement about a table was noted: these are the operations then
pub record IsNoted (table : TableNo) (ops : List Op) (t u : Txn) : Type 0 where
  pub base : u.base ≡ t.base
  pub own : u.own ≡ t.own
  pub touched : u.touched.items ≡ t.touched.items ++ table ∷ []
  pub ops_are : u.ops.items ≡ ops
  pub marks : u.marks.items ≡ []
  pub walk : u.walk ≡ t.walk

-- a table as a transaction sees it
pub record IsTableOf (h : Held) (table : ℕ) (t : Table) : Type 0 where
  pub shelf_is : t.shelf ≡ shelf_at h.shelves table
  pub mode : t.same_time ≡ h.base.same_time
  pub rows : t.limit ≡ h.base.limit
  pub fresh : t.spent ≡ false
  pub is_table : IsTable t

-- ---- what comes of a request

unfoldable pub due_of : Turn → Due
due_of turn.Commit = commit
due_of (turn.Install t column) = install t column

unfoldable pub step_due : Turn → Held → Step
step_due turn.Commit h = record { served = wants_commit; conn = awaits h commit }
step_due (turn.Install t column) h = record { served = wants_install t column; conn = awaits h (install t column) }

-- a refusal of a request that names this table
unfoldable pub refused_by : ℕ → ℕ → Came
refused_by zero table = came.Ends (reply.No 0 table)
refused_by (suc reason) table = came.Says (reply.No (suc reason) 0)

-- with the transaction as it is then
unfoldable pub step_by : Came → Held → Step
step_by (came.Says answer) h = step_to answer (holds h)
step_by (came.Ends answer) h = step_to answer idle
step_by (came.Waits due) h = step_due due h

-- where the transaction then waits for a turn, that can be taken
unfoldable pub IsReadyFor : Came → Txn → Type 0
IsReadyFor (came.Says answer) t = Unit {0}
IsReadyFor (came.Ends answer) t = Unit {0}
IsReadyFor (came.Waits due) t = IsReady (held_in t) (due_of due)

-- ---- a connection

unfoldable pub conn_in : Stage → Conn
conn_in stage.Idle = idle
conn_in stage.Begins = begins
conn_in (stage.Holds t) = holds (held_in t)
conn_in (stage.Awaits t due) = awaits (held_in t) (due_of due)

unfoldable pub IsStage : Stage → Type 0
IsStage stage.Idle = Unit {0}
IsStage stage.Begins = Unit {0}
IsStage (stage.Holds t) = IsTxn t
IsStage (stage.Awaits t due) = IsTxn t × IsReady (held_in t) (due_of due)

-- a spent connection has no transaction
pub record IsConn (s : Stage) (spent : Bool) : Type 0 where
  pub stage_is : IsStage s
  pub gone : spent ≡ true → s ≡ stage.Idle
