-- The bodies that the server saw, and the cells that they seal: the statements of laws that this crate's functions without a body prove.
use Rattle.std.specs.Prelude.{◌≡◌, ℕ, ◌+◌, ◌*◌, ◌^◌, ◌<◌, ◌≤◌, true, List, [], ◌∷◌, ◌++◌, map, length, get_or}
use Rattle.mope_base.specs.Lists.{Each}
use Rattle.mope_base.specs.declared.body.Body.{Body}
use Rattle.mope_base.specs.declared.numbers.SessionNo.{SessionNo}
use Rattle.tree_model.specs.Places.{holds}
use Rattle.value_cipher.specs.Cipher.{sealed}
use Rattle.versions.specs.declared.op.Op.{Op}
use Rattle.versions.specs.declared.op.Op.TheVariants.{Insert, Delete}
use Rattle.versions.specs.declared.turn.Turn.{Turn}
use Rattle.versions.specs.declared.turn.TurnKind.{TurnKind}
use Rattle.versions.specs.declared.turn.TurnKind.TheVariants.{Began, Committed, Conflict, Installed, Stale}
use Rattle.walk_proto.specs.declared.messages.Exchange.{Exchange}
use Rattle.walk_proto.specs.declared.messages.Reply.{Reply}
use Rattle.walk_proto.specs.declared.messages.Reply.TheVariants as reply
use Rattle.walk_proto.specs.declared.messages.Request.{Request}
use Rattle.walk_proto.specs.declared.messages.Request.TheVariants as request
use Rattle.workload.specs.declared.script.Act.{Act}
use Rattle.workload.specs.declared.script.Act.TheVariants as act
use Rattle.workload.specs.declared.script.Piece.{Piece}
use Rattle.workload.specs.declared.script.Piece.TheVariants as piece
use Rattle.workload.specs.declared.script.Workload.{Workload}
use Rattle.workload.specs.History.{script_of}
use Rattle.workload.specs.Validity.{IsValid}
use Rattle.proxy.specs.Client.{cells_from}
use Rattle.run_laws.specs.Worlds.{RunSetting, session_setting}
use Rattle.run_laws.specs.WorldRuns.{Session, WorldRun, first_run, session_at, world_turns, world_run}

-- ---- bodies

unfoldable pub request_bodies : Request → List Body
request_bodies request.Begin = []
request_bodies (request.WalkStart t column) = []
request_bodies (request.Go side) = []
request_bodies request.Found = []
request_bodies (request.Insert t bodies) = bodies
request_bodies (request.Query a) = []
request_bodies (request.End keeps) = []
request_bodies (request.Rebuild t column) = []

unfoldable pub reply_bodies : Reply → List Body
reply_bodies (reply.Node body) = body ∷ []
reply_bodies reply.Placed = []
reply_bodies (reply.Rows width bodies) = bodies
reply_bodies (reply.Count number) = []
reply_bodies (reply.Ended how table number) = []
reply_bodies (reply.No code value) = []

-- those of exchanges, in order
unfoldable pub log_bodies : List Exchange → List Body
log_bodies [] = []
log_bodies (e ∷ log) = request_bodies e.request ++ reply_bodies e.reply ++ log_bodies log

-- those that a session sent, in order
unfoldable pub sent_bodies : List Exchange → List Body
sent_bodies [] = []
sent_bodies (e ∷ log) = request_bodies e.request ++ sent_bodies log

unfoldable pub op_bodies : Op → List Body
op_bodies (Insert table places bodies) = bodies
op_bodies (Delete table rows) = []

unfoldable pub ops_bodies : List Op → List Body
ops_bodies [] = []
ops_bodies (op ∷ ops) = op_bodies op ++ ops_bodies ops

unfoldable pub kind_bodies : TurnKind → List Body
kind_bodies (Began number) = []
kind_bodies (Committed number ops) = ops_bodies ops
kind_bodies (Conflict table number) = []
kind_bodies (Installed number table column) = []
kind_bodies (Stale table number) = []

unfoldable pub turns_bodies : List Turn → List Body
turns_bodies [] = []
turns_bodies (turn ∷ turns) = kind_bodies turn.what ++ turns_bodies turns

-- ---- cells

-- the numbers of the INSERTs of statements, of a transaction, of a script
unfoldable pub act_numbers : Act → List ℕ
act_numbers (act.Insert t values) = values
act_numbers (act.Ask ask) = []

unfoldable pub acts_numbers : List Act → List ℕ
acts_numbers [] = []
acts_numbers (a ∷ acts) = act_numbers a ++ acts_numbers acts

unfoldable pub piece_numbers : Piece → List ℕ
piece_numbers (piece.Txn acts rollback) = acts_numbers acts
piece_numbers (piece.Rebuild t column) = []

unfoldable pub script_numbers : List Piece → List ℕ
script_numbers [] = []
script_numbers (p ∷ pieces) = piece_numbers p ++ script_numbers pieces

-- a number of an INSERT of a session's script
unfoldable pub IsNumberOf : Workload → SessionNo → ℕ → Type 0
IsNumberOf w n v = holds v (script_numbers (script_of w n.0)) ≡ true

-- what a session sent are the seals of cells in order: their values are numbers of INSERTs of its script, their nonces those of the session,
-- from its first one on
pub record IsSent (s : RunSetting) (w : Workload) (n : SessionNo) (sent : List Body) : Type 0 where
  pub values : List ℕ
  pub numbers : Each (IsNumberOf w n) values
  pub few : length values < 2 ^ 32
  pub bodies : sent ≡ map (sealed s.key) (cells_from (session_setting s n) 0 values)

-- a session of the run sent this body, after so many others
pub record WasSent (w : Workload) (r : WorldRun) (body : Body) : Type 0 where
  pub session : SessionNo
  pub counter : ℕ
  pub from : 1 ≤ session.0
  pub to : session.0 ≤ length w.sessions
  pub within : counter < length (sent_bodies (session_at r.sessions session.0).log)
  pub is : get_or (sent_bodies (session_at r.sessions session.0).log) counter body ≡ body

-- two bodies that sessions sent, at different places, have different nonces
abbrev pub NoncesDiffer : WorldRun → Type 0
NoncesDiffer r = (n m : SessionNo) (i j : ℕ) (d e : Body) → 1 ≤ n.0 → 1 ≤ m.0 → i < length (sent_bodies (session_at r.sessions n.0).log) → j < length (sent_bodies (session_at r.sessions m.0).log)
    → (get_or (sent_bodies (session_at r.sessions n.0).log) i d).nonce ≡ (get_or (sent_bodies (session_at r.sessions m.0).log) j e).nonce → (n.0 ≡ m.0) × (i ≡ j)

-- a session sent every body that the server saw, as the seal of a cell of its own; two cells of a run have different nonces, and all stand
-- from the first one on, and below the next free one
pub record SealsCells (s : RunSetting) (w : Workload) (r : WorldRun) : Type 0 where
  pub sent : (n : SessionNo) → IsSent s w n (sent_bodies (session_at r.sessions n.0).log)
  pub logs : Each (λ (session : Session). Each (WasSent w r) (log_bodies session.log)) r.sessions
  pub turns : Each (WasSent w r) (turns_bodies r.turns)
  pub differ : NoncesDiffer r
  pub within : (body : Body) → WasSent w r body → (s.first ≤ body.nonce) × (body.nonce < s.first + length w.sessions * 2 ^ 32)

abbrev pub TurnsSealCells : Type 0
TurnsSealCells = (s : RunSetting) (w : Workload) → IsValid w → (turns : List SessionNo) → SealsCells s w (world_turns s (first_run s w) turns)

abbrev pub RunSealsCells : Type 0
RunSealsCells = (s : RunSetting) (w : Workload) → IsValid w → (turns : List SessionNo) → SealsCells s w (world_run s w turns)
