-- The begin and the end of a transaction: the exchanges that hold turns, or end a transaction without one.
use Rattle.std.specs.Prelude.{◌≡◌, ℕ, Bool, true, false, not, List, [], ◌∷◌, map, Some, None}
use Rattle.mope_base.specs.declared.numbers.TableNo.{TableNo}
use Rattle.mope_base.specs.declared.numbers.ColNo.{ColNo}
use Rattle.versions.specs.Databases.{Database}
use Rattle.versions.specs.declared.op.Op.{Op}
use Rattle.walk_proto.specs.declared.messages.How.TheVariants as how
use Rattle.walk_proto.specs.declared.messages.Reply.{Reply}
use Rattle.walk_proto.specs.declared.messages.Reply.TheVariants as reply
use Rattle.walk_proto.specs.declared.messages.Request.{Request}
use Rattle.walk_proto.specs.declared.messages.Request.TheVariants as request
use Rattle.workload.specs.declared.script.Act.{Act}
use Rattle.workload.specs.declared.script.End.TheVariants as end
use Rattle.workload.specs.Run.{names}
use Rattle.workload.specs.Transaction.{table_named}
use Rattle.proxy.specs.Allowed.{allowed}
use Rattle.proxy.specs.Client.{Setting, Client, wants, hears, ending, closed_by}
use Rattle.proxy.specs.Tasks.{Task, opens, closes, rebuilds}
use Rattle.server_conn.specs.Connections.{Held, held_on, commit, install, Conn, idle, begins, holds, awaits, Served, wants_begin, wants_commit, wants_install, Step}
use Rattle.server_conn.specs.Checks.{lacks_table, lacks_column}
use Rattle.server_conn.specs.Serving.{serve, began, ended, step_to}
use Rattle.transaction_laws.specs.Meetings.{Meets, doing}
use Rattle.transaction_laws.specs.Walks.{exchanged}

-- an exchange that holds a turn: the client wants the request, the connection asks for the turn; after it the connection gives the reply,
-- which the client allows
pub record MeetsTurn (s : Setting) (c : Client) (k : Conn) (r : Request) (asks : Served) (waiting : Conn) (answer : Reply) (after_turn : Step) (client : Client) (conn : Conn) : Type 0 where
  pub wanted : wants s c ≡ Some r
  pub asked : serve r k ≡ record { served = asks; conn = waiting }
  pub answered : after_turn ≡ step_to answer conn
  pub allows : allowed c answer ≡ true
  pub client_is : hears s c answer ≡ client

-- a client whose transaction has begun on the version of a number
unfoldable pub begun_on : ℕ → Client → Client
begun_on number c = record c { base = number }

-- a begin: the transaction's own tables are the version's
abbrev pub BeginMeets : Type 0
BeginMeets = (s : Setting) (later : List Task) (c : Client) (d : Database) → MeetsTurn s (doing (opens ∷ later) c) idle request.Begin wants_begin begins (reply.Ended how.Began 0 d.number) (began d) (doing later (begun_on d.number c)) (holds (held_on d))

-- a transaction ends without a turn: by a ROLLBACK, or without an operation
unfoldable pub EndsAtOnce : Bool → List Op → Type 0
EndsAtOnce true ops = Unit {0}
EndsAtOnce false [] = Unit {0}
EndsAtOnce false (o ∷ ops) = ⊥

abbrev pub CloseMeets : Type 0
CloseMeets = (s : Setting) (rollback : Bool) (acts : List Act) (later : List Task) (c : Client) (h : Held) → h.walk ≡ None → EndsAtOnce rollback h.ops
    → Meets s (doing (closes rollback acts ∷ later) c) (holds h) (exchanged (request.End (not rollback)) (reply.Ended how.Closed 0 h.base.number) ∷ []) (ending s (closed_by rollback) c) idle

unfoldable pub HasOps : List Op → Type 0
HasOps [] = ⊥
HasOps (o ∷ ops) = Unit {0}

-- a commit whose turn makes the version of a number
abbrev pub CommitMeets : Type 0
CommitMeets = (s : Setting) (acts : List Act) (later : List Task) (c : Client) (h : Held) (number : ℕ) → h.walk ≡ None → HasOps h.ops
    → MeetsTurn s (doing (closes false acts ∷ later) c) (holds h) (request.End true) wants_commit (awaits h commit) (reply.Ended how.Committed 0 number) (ended how.Committed 0 number) (ending s (end.Committed number) c) idle

-- a commit whose turn finds a table written that one of the statements names
abbrev pub ConflictMeets : Type 0
ConflictMeets = (s : Setting) (acts : List Act) (later : List Task) (c : Client) (h : Held) (t : TableNo) (number : ℕ) → h.walk ≡ None → HasOps h.ops → names (map table_named acts) t.0 ≡ true
    → MeetsTurn s (doing (closes false acts ∷ later) c) (holds h) (request.End true) wants_commit (awaits h commit) (reply.Ended how.Conflict t.0 number) (ended how.Conflict t.0 number) (ending s (end.Conflict t number) c) idle

-- there is this column
pub record HasColumnOf (t : TableNo) (column : ColNo) (d : Database) : Type 0 where
  pub has_table : lacks_table (held_on d) t ≡ false
  pub has_column : lacks_column (held_on d) t column.0 ≡ false

-- an install, and one that finds its table changed
abbrev pub InstallMeets : Type 0
InstallMeets = (s : Setting) (t : TableNo) (column : ColNo) (later : List Task) (c : Client) (d : Database) (number : ℕ) → HasColumnOf t column d
    → MeetsTurn s (doing (rebuilds t column ∷ later) c) (holds (held_on d)) (request.Rebuild t column) (wants_install t column) (awaits (held_on d) (install t column)) (reply.Ended how.Installed 0 number) (ended how.Installed 0 number) (ending s (end.Installed number) c) idle

abbrev pub StaleMeets : Type 0
StaleMeets = (s : Setting) (t : TableNo) (column : ColNo) (later : List Task) (c : Client) (d : Database) (number : ℕ) → HasColumnOf t column d
    → MeetsTurn s (doing (rebuilds t column ∷ later) c) (holds (held_on d)) (request.Rebuild t column) (wants_install t column) (awaits (held_on d) (install t column)) (reply.Ended how.Stale t.0 number) (ended how.Stale t.0 number) (ending s (end.Stale t number) c) idle
