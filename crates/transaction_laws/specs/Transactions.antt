-- A whole transaction in a world, and what client and connection do in it together.
use Rattle.std.specs.Prelude.{◌≡◌, ℕ, ◌+◌, Bool, true, false, not, List, [], ◌∷◌, ◌++◌, map, None}
use Rattle.mope_base.specs.Lists.{Each}
use Rattle.mope_base.specs.declared.body.Body.{Body}
use Rattle.mope_base.specs.declared.numbers.TableNo.{TableNo}
use Rattle.mope_base.specs.declared.numbers.ColNo.{ColNo}
use Rattle.table_model.specs.Stores.{Row, Store, map_shelf, shelf_of}
use Rattle.table_model.specs.Soundness.{numbers_of}
use Rattle.table_model.specs.Operations.{ValueOp, InsertCells, RankOp, InsertAt, DeleteAt, ops_on, placed_ops, map_rank_op}
use Rattle.table_model.specs.Fitting.{AllFit}
use Rattle.value_cipher.specs.Cipher.{Cell, value_of, sealed}
use Rattle.versions.specs.Databases.{Database}
use Rattle.versions.specs.declared.op.Op.{Op}
use Rattle.versions.specs.declared.op.Op.TheVariants as op
use Rattle.walk_proto.specs.declared.messages.Exchange.{Exchange}
use Rattle.walk_proto.specs.declared.messages.How.TheVariants as how
use Rattle.walk_proto.specs.declared.messages.Reply.{Reply}
use Rattle.walk_proto.specs.declared.messages.Reply.TheVariants as reply
use Rattle.walk_proto.specs.declared.messages.Request.{Request}
use Rattle.walk_proto.specs.declared.messages.Request.TheVariants as request
use Rattle.workload.specs.declared.plain.PlainRow.{PlainRow}
use Rattle.workload.specs.declared.plain.PlainTable.{PlainTable}
use Rattle.workload.specs.declared.plain.PlainDb.{PlainDb}
use Rattle.workload.specs.declared.script.Act.{Act}
use Rattle.workload.specs.declared.script.Act.TheVariants as act
use Rattle.workload.specs.declared.script.Decl.{Decl}
use Rattle.workload.specs.declared.script.End.TheVariants as end
use Rattle.workload.specs.declared.script.Piece.TheVariants as piece
use Rattle.workload.specs.PlainDatabase.{row_limit}
use Rattle.workload.specs.Run.{names}
use Rattle.workload.specs.Transaction.{Trial, going, stopped, table_named, started, after_act, trial_of, work_of, Wish, ends, commits, wish_after}
use Rattle.workload.specs.Validity.{IsValidDecl, IsValidAct, IsValidPiece, inserted_numbers}
use Rattle.proxy.specs.Client.{Setting, Client, cells_from, ending}
use Rattle.proxy.specs.Tasks.{Task, closes, rebuilds, constants_of, acts_then, tasks_of}
use Rattle.server_conn.specs.Connections.{Held, held_on, commit, install, Conn, idle, begins, holds, awaits, wants_begin, wants_commit, wants_install}
use Rattle.server_conn.specs.Serving.{began, ended}
use Rattle.transaction_laws.specs.Meetings.{Meets, doing}
use Rattle.transaction_laws.specs.Walks.{exchanged}
use Rattle.transaction_laws.specs.Constants.{store_at, Shows, walks_log}
use Rattle.transaction_laws.specs.Queries.{AreDeclared, rows_about, reply_with, query_request, ops_about}
use Rattle.transaction_laws.specs.Ends.{MeetsTurn, begun_on}

-- ---- a world in clear

unfoldable pub plain_row : Row Cell → PlainRow
plain_row row = record { number = row.number; values = map value_of row.cells }

unfoldable pub plain_table : Store Cell → PlainTable
plain_table store = record { rows = map plain_row store.rows; next = store.next }

unfoldable pub plain_database : List (Store Cell) → PlainDb
plain_database stores = record { tables = map plain_table stores }

-- ---- a transaction in a world

-- what it is on plain tables; its own tables; its operations by value; and how many values its session has sealed
pub record Tried : Type 0 where
  pub plain : Trial
  pub stores : List (Store Cell)
  pub ops : List (ValueOp Cell)
  pub seals : ℕ

-- at its begin
unfoldable pub tried_on : List (Store Cell) → ℕ → Tried
tried_on stores seals = record { plain = going (started (plain_database stores)); stores = stores; ops = []; seals = seals }

-- what a statement does to its tables
unfoldable pub ops_of : Setting → Act → Tried → List (ValueOp Cell)
ops_of s (act.Insert t xs) w = InsertCells t.0 (cells_from s w.seals xs) ∷ []
ops_of s (act.Ask ask) w = ops_about ask.verb ask.table (numbers_of (rows_about ask (store_at w.stores ask.table)))

-- after a statement, by what it is on plain tables then: a full table changes nothing, but the values of the row are sealed
unfoldable pub tried_by : Setting → Bool → Act → Trial → Tried → Tried
tried_by s same_time a (stopped t work) w = record { plain = stopped t work; stores = w.stores; ops = w.ops; seals = w.seals + inserted_numbers a }
tried_by s same_time a (going work) w = record {
  plain = going work;
  stores = ops_on same_time value_of (ops_of s a w) w.stores;
  ops = w.ops ++ ops_of s a w;
  seals = w.seals + inserted_numbers a;
}

unfoldable pub act_tried : Setting → Bool → Act → Tried → Tried
act_tried s same_time a w = tried_by s same_time a (after_act w.plain a) w

unfoldable pub unless_stopped : {A : Type 0} → Trial → A → A → A
unless_stopped (stopped t work) now later = now
unless_stopped (going work) now later = later

-- after statements, up to the first that meets a full table
unfoldable pub acts_tried : Setting → Bool → List Act → Tried → Tried
acts_tried s same_time [] w = w
acts_tried s same_time (a ∷ acts) w = unless_stopped (after_act w.plain a) (act_tried s same_time a w) (acts_tried s same_time acts (act_tried s same_time a w))

-- ---- its exchanges

unfoldable pub request_of : Setting → Act → Tried → Request
request_of s (act.Insert t xs) w = request.Insert t (map (sealed s.key) (cells_from s w.seals xs))
request_of s (act.Ask ask) w = query_request ask

unfoldable pub reply_of : Setting → Act → Trial → Tried → Reply
reply_of s a (stopped t work) w = reply.No 0 t.0
reply_of s (act.Insert t xs) (going work) w = reply.Count 1
reply_of s (act.Ask ask) (going work) w = reply_with s.key ask.verb (rows_about ask (store_at w.stores ask.table))

-- a walk for each constant, then the statement
unfoldable pub act_log : Setting → Act → Tried → List Exchange
act_log s a w = walks_log s.key (table_named a) (constants_of a) (store_at w.stores (table_named a)) ++ exchanged (request_of s a w) (reply_of s a (after_act w.plain a) w) ∷ []

unfoldable pub acts_log : Setting → Bool → List Act → Tried → List Exchange
acts_log s same_time [] w = []
acts_log s same_time (a ∷ acts) w = act_log s a w ++ unless_stopped (after_act w.plain a) [] (acts_log s same_time acts (act_tried s same_time a w))

-- ---- client and connection

-- the client in it: its answers are the plain ones
unfoldable pub client_in : List Task → Client → Tried → Client
client_in tasks c w = record c { tasks = tasks; looking = None; seals = w.seals; answers = (work_of w.plain).answers }

-- an operation as a connection keeps it
unfoldable pub kept_op : RankOp Body → Op
kept_op (InsertAt t places bodies) = op.Insert (record { 0 = t }) places bodies
kept_op (DeleteAt t numbers) = op.Delete (record { 0 = t }) numbers

-- operations by value, each at the places by the tables as those before it left them, their cells sealed
unfoldable pub kept_ops : List ℕ → Bool → List (ValueOp Cell) → List (Store Cell) → List Op
kept_ops key same_time ops stores = map kept_op (map (map_rank_op (sealed key)) (placed_ops same_time value_of ops stores))

-- the connection's transaction: its tables are the world's with their cells sealed, the touched tables the plain ones
unfoldable pub held_in : List ℕ → Database → List (Store Cell) → Tried → Held
held_in key d stores w = record {
  base = d;
  shelves = map (map_shelf (sealed key)) (map (shelf_of value_of) w.stores);
  touched = (work_of w.plain).touched;
  ops = kept_ops key d.same_time w.ops stores;
  marks = [];
  walk = None;
}

-- both, by what the transaction is on plain tables: a full table has ended it
unfoldable pub client_by : Setting → List Task → Client → Trial → Tried → Client
client_by s later c (stopped t work) w = ending s (end.Full t) (client_in [] c w)
client_by s later c (going work) w = client_in later c w

unfoldable pub conn_by : List ℕ → Database → List (Store Cell) → Trial → Tried → Conn
conn_by key d stores (stopped t work) w = idle
conn_by key d stores (going work) w = holds (held_in key d stores w)

-- ---- its end

-- a commit's turn makes a version, or finds a table written that the transaction touched
pub record CommitTurns (s : Setting) (acts : List Act) (touched : List TableNo) (c : Client) (h : Held) : Type 0 where
  pub commits_as : (number : ℕ) → MeetsTurn s (doing (closes false acts ∷ []) c) (holds h) (request.End true) wants_commit (awaits h commit) (reply.Ended how.Committed 0 number) (ended how.Committed 0 number) (ending s (end.Committed number) c) idle
  pub conflicts : (t : TableNo) (number : ℕ) → names touched t.0 ≡ true
      → MeetsTurn s (doing (closes false acts ∷ []) c) (holds h) (request.End true) wants_commit (awaits h commit) (reply.Ended how.Conflict t.0 number) (ended how.Conflict t.0 number) (ending s (end.Conflict t number) c) idle

-- it ends at once, or by a turn
unfoldable pub EndsAs : Setting → Bool → List Act → List TableNo → Client → Held → Wish → Type 0
EndsAs s rollback acts touched c h (ends e) = Meets s (doing (closes rollback acts ∷ []) c) (holds h) (exchanged (request.End (not rollback)) (reply.Ended how.Closed 0 h.base.number) ∷ []) (ending s e c) idle
EndsAs s rollback acts touched c h commits = (rollback ≡ false) × CommitTurns s acts touched c h

-- after a full table nothing follows
unfoldable pub EndsBy : Setting → Bool → List Act → Client → Database → List (Store Cell) → Trial → Tried → Type 0
EndsBy s rollback acts c d stores (stopped t work) w = Unit {0}
EndsBy s rollback acts c d stores (going work) w = EndsAs s rollback acts work.touched (client_in [] c w) (held_in s.key d stores w) (wish_after rollback work.ops)

-- ---- the law

-- a version stands for the tables of a world, which are as they are declared and take as many rows as plain tables
pub record MayRun (s : Setting) (tables : List Decl) (d : Database) (stores : List (Store Cell)) : Type 0 where
  pub shows : Shows s.key stores (held_on d)
  pub valid : Each IsValidDecl tables
  pub declared : AreDeclared tables stores
  pub limit : d.limit ≡ row_limit

-- a transaction from its begin to its end: what it does on plain tables are the trial of its statements; its own tables in clear are the
-- trial's copy; its operations fit the version's tables, and make them of those
pub record TransactionGoes (s : Setting) (acts : List Act) (rollback : Bool) (c : Client) (d : Database) (stores : List (Store Cell)) (w : Tried) : Type 0 where
  pub starts : MeetsTurn s (doing (tasks_of (piece.Txn acts rollback)) c) idle request.Begin wants_begin begins (reply.Ended how.Began 0 d.number) (began d) (doing (acts_then acts (closes rollback acts ∷ [])) (begun_on d.number c)) (holds (held_on d))
  pub goes : Meets s (doing (acts_then acts (closes rollback acts ∷ [])) (begun_on d.number c)) (holds (held_on d)) (acts_log s d.same_time acts (tried_on stores c.seals)) (client_by s (closes rollback acts ∷ []) (begun_on d.number c) w.plain w) (conn_by s.key d stores w.plain w)
  pub ends_as : EndsBy s rollback acts (begun_on d.number c) d stores w.plain w
  pub plain : w.plain ≡ trial_of (plain_database stores) acts
  pub copy : plain_database w.stores ≡ (work_of w.plain).copy
  pub fit : AllFit d.same_time value_of d.limit w.ops stores
  pub made : w.stores ≡ ops_on d.same_time value_of w.ops stores
  pub shows : Shows s.key w.stores (held_in s.key d stores w)

abbrev pub TransactionMeets : Type 0
TransactionMeets = (s : Setting) (tables : List Decl) (acts : List Act) (rollback : Bool) (c : Client) (d : Database) (stores : List (Store Cell)) → MayRun s tables d stores → Each (IsValidAct tables) acts → c.answers ≡ []
    → TransactionGoes s acts rollback c d stores (acts_tried s d.same_time acts (tried_on stores c.seals))

-- a REBUILD from its begin to its end: its turn makes a version, or finds the table changed
pub record RebuildGoes (s : Setting) (t : TableNo) (column : ColNo) (c : Client) (d : Database) : Type 0 where
  pub starts : MeetsTurn s (doing (tasks_of (piece.Rebuild t column)) c) idle request.Begin wants_begin begins (reply.Ended how.Began 0 d.number) (began d) (doing (rebuilds t column ∷ []) (begun_on d.number c)) (holds (held_on d))
  pub installs : (number : ℕ) → MeetsTurn s (doing (rebuilds t column ∷ []) (begun_on d.number c)) (holds (held_on d)) (request.Rebuild t column) (wants_install t column) (awaits (held_on d) (install t column)) (reply.Ended how.Installed 0 number) (ended how.Installed 0 number) (ending s (end.Installed number) (begun_on d.number c)) idle
  pub finds_stale : (number : ℕ) → MeetsTurn s (doing (rebuilds t column ∷ []) (begun_on d.number c)) (holds (held_on d)) (request.Rebuild t column) (wants_install t column) (awaits (held_on d) (install t column)) (reply.Ended how.Stale t.0 number) (ended how.Stale t.0 number) (ending s (end.Stale t number) (begun_on d.number c)) idle

abbrev pub RebuildMeets : Type 0
RebuildMeets = (s : Setting) (tables : List Decl) (t : TableNo) (column : ColNo) (c : Client) (d : Database) (stores : List (Store Cell)) → MayRun s tables d stores → IsValidPiece tables (piece.Rebuild t column) → RebuildGoes s t column c d
