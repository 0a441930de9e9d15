-- What contracts see of a connection, and of what its calls hand out.
use Rattle.std.specs.Prelude.{◌≡◌, ℕ, ◌<◌, min, Bool, true, false, List, [], ◌∷◌, length, Option, Some, None}
use Rattle.mope_base.specs.declared.body.Body.{Body}
use Rattle.mope_base.specs.declared.numbers.TableNo.{TableNo}
use Rattle.table_model.specs.Operations.{RankOp}
use Rattle.versions.specs.declared.op.Op.{Op}
use Rattle.versions.specs.Databases.{Database}
use Rattle.versions.specs.Newer.{names}
use Rattle.versions.specs.Operations.{op_table, rank_ops, OpsFit, HasColumn}
use Rattle.walk_proto.specs.declared.faults.WireStop.{WireStop}
use Rattle.walk_proto.specs.declared.faults.WireStop.TheVariants.{Short, Kind, Length, Value, OutOfMemory}
use Rattle.walk_proto.specs.declared.messages.How.{How}
use Rattle.walk_proto.specs.declared.messages.How.TheVariants as how
use Rattle.walk_proto.specs.declared.messages.Reply.{Reply}
use Rattle.walk_proto.specs.declared.messages.Reply.TheVariants as reply
use Rattle.walk_proto.specs.declared.messages.Request.{Request}
use Rattle.walk_proto.specs.declared.messages.Request.TheVariants as request
use Rattle.server_conn.specs.declared.receipt.Receipt.{Receipt}
use Rattle.server_conn.specs.declared.receipt.Served.{Served as Answered}
use Rattle.server_conn.specs.declared.receipt.Served.TheVariants as answered
use Rattle.server_conn.specs.Connections.{Held, Due, commit, install, Conn, idle, begins, holds, awaits, Served, replies, wants_begin, wants_commit, wants_install}

-- a connection, and whether it is spent: after want of memory it has no transaction, and each later call that can answer want of
-- memory does
pub record Seen : Type 0 where
  pub conn : Conn
  pub spent : Bool

-- one that isn't spent
unfoldable pub running : Conn → Seen
running k = record { conn = k; spent = false }

unfoldable pub spent_conn : Seen
spent_conn = record { conn = idle; spent = true }

-- ---- what is handed out

unfoldable pub receipt_for : Option Request → Reply → Receipt
receipt_for r answer = record { request = r; reply = answer }

-- what comes of a request, as it is handed out
unfoldable pub handed : Request → Served → Answered
handed r (replies answer) = answered.Reply (receipt_for (Some r) answer)
handed r wants_begin = answered.Begin
handed r wants_commit = answered.Commit
handed r (wants_install t column) = answered.Install t column

-- a reply, of what is handed out as one
unfoldable pub reply_in : Served → Option Reply
reply_in (replies answer) = Some answer
reply_in wants_begin = None
reply_in wants_commit = None
reply_in (wants_install t column) = None

-- the refusal of bytes that spell no request, for their first fault: the offset has 32 bits, as that of every fault that comes
unfoldable pub fault_reply : WireStop → Option Reply
fault_reply (Short offset) = Some (reply.No 8 (min offset 4294967295))
fault_reply (Kind offset) = Some (reply.No 9 (min offset 4294967295))
fault_reply (Length offset) = Some (reply.No 10 (min offset 4294967295))
fault_reply (Value offset) = Some (reply.No 11 (min offset 4294967295))
fault_reply OutOfMemory = None

-- such a refusal, as it is handed out
unfoldable pub handed_fault : Option Reply → Option Answered
handed_fault None = None
handed_fault (Some said) = Some (answered.Reply (receipt_for None said))

-- a step of a walk, or its end: these take no memory
unfoldable pub IsStep : Request → Type 0
IsStep request.Begin = ⊥
IsStep (request.WalkStart t column) = ⊥
IsStep (request.Go side) = Unit {0}
IsStep request.Found = Unit {0}
IsStep (request.Insert t bodies) = ⊥
IsStep (request.Query a) = ⊥
IsStep (request.End keeps) = ⊥
IsStep (request.Rebuild t column) = ⊥

-- ---- turns

-- the transaction of a connection, if it has one
unfoldable pub held_by : Conn → Option Held
held_by idle = None
held_by begins = None
held_by (holds h) = Some h
held_by (awaits h due) = Some h

-- the request by which a turn was asked for
unfoldable pub request_for : Due → Request
request_for commit = request.End true
request_for (install t column) = request.Rebuild t column

-- the request whose turn is awaited
unfoldable pub asked_by : Conn → Option Request
asked_by idle = None
asked_by begins = Some request.Begin
asked_by (holds h) = None
asked_by (awaits h due) = Some (request_for due)

-- how the last turn of a transaction can end, and with which table
unfoldable pub EndsSo : Due → How → ℕ → Type 0
EndsSo due how.Began table = ⊥
EndsSo due how.Closed table = ⊥
EndsSo commit how.Committed table = table ≡ 0
EndsSo (install t column) how.Committed table = ⊥
EndsSo commit how.Conflict table = Unit {0}
EndsSo (install t column) how.Conflict table = ⊥
EndsSo commit how.Installed table = ⊥
EndsSo (install t column) how.Installed table = table ≡ 0
EndsSo commit how.Stale table = ⊥
EndsSo (install t column) how.Stale table = Unit {0}

-- the turn that is awaited can end so
unfoldable pub CanEnd : Conn → How → ℕ → Type 0
CanEnd idle h table = ⊥
CanEnd begins h table = ⊥
CanEnd (holds held) h table = ⊥
CanEnd (awaits held due) h table = EndsSo due h table

-- each table that an operation is on is one of these
unfoldable pub AllTouched : List TableNo → List (RankOp Body) → Type 0
AllTouched touched [] = Unit {0}
AllTouched touched (op ∷ ops) = (names touched (op_table op) ≡ true) × AllTouched touched ops

-- a transaction's operations fit its version, and it touched their tables
pub record IsDone (base : Database) (touched : List TableNo) (ops : List Op) : Type 0 where
  pub fit : OpsFit (rank_ops ops) base
  pub touches : AllTouched touched (rank_ops ops)

-- the turn that a transaction waits for can be taken: it has an operation, or its version has the column
unfoldable pub IsReady : Held → Due → Type 0
IsReady h commit = 0 < length h.ops
IsReady h (install t column) = HasColumn t.0 column.0 h.base

unfoldable pub IsDueBy : Conn → Type 0
IsDueBy idle = Unit {0}
IsDueBy begins = Unit {0}
IsDueBy (holds h) = Unit {0}
IsDueBy (awaits h due) = IsReady h due
