-- Where a session rests between its turns, what its client and its connection are there, and how they come there. The definition is our own.
use Rattle.std.specs.Prelude.{◌≡◌, ℕ, zero, suc, ◌≤◌, Bool, true, false, eqb, List, [], ◌∷◌, take, length, get_or, set, None}
use Rattle.mope_base.specs.declared.numbers.SessionNo.{SessionNo}
use Rattle.mope_base.specs.declared.numbers.TableNo.{TableNo}
use Rattle.mope_base.specs.declared.numbers.ColNo.{ColNo}
use Rattle.versions.specs.declared.turn.Turn.{Turn}
use Rattle.versions.specs.Databases.{Database}
use Rattle.versions.specs.Turns.{replay}
use Rattle.walk_proto.specs.declared.messages.Exchange.{Exchange}
use Rattle.workload.specs.declared.script.Act.{Act}
use Rattle.workload.specs.declared.script.Answer.{Answer}
use Rattle.workload.specs.declared.script.DoneTxn.{DoneTxn}
use Rattle.workload.specs.declared.script.Piece.{Piece}
use Rattle.workload.specs.declared.script.Workload.{Workload}
use Rattle.workload.specs.Run.{Position, ready, committing, installing, position_at}
use Rattle.workload.specs.Transaction.{Work, going}
use Rattle.proxy.specs.Client.{Setting, Client, starts, taking_up}
use Rattle.proxy.specs.Talk.{Talk, AllAllowed, client_after}
use Rattle.proxy.specs.Tasks.{Task, closes, rebuilds}
use Rattle.server_conn.specs.Connections.{Conn, idle, holds, held_on}
use Rattle.server_conn.specs.Logs.{Answers, conn_after}
use Rattle.transaction_laws.specs.Ends.{HasColumnOf}
use Rattle.transaction_laws.specs.Transactions.{Tried, held_in, CommitTurns}
use Rattle.run_laws.specs.Worlds.{RunSetting, session_setting, first_version}
use Rattle.run_laws.specs.WorldRuns.{WorldRun, session_at, world_at}

-- a session's client and connection
pub record Seat : Type 0 where
  pub client : Client
  pub conn : Conn

unfoldable pub seat_of : Client → Conn → Seat
seat_of client conn = record { client = client; conn = conn }

-- before the first exchange
unfoldable pub first_seat : List Piece → Seat
first_seat script = seat_of (starts script) idle

-- the seat of a session; sessions count from 1
unfoldable pub seat_at : List Seat → ℕ → Seat
seat_at seats zero = first_seat []
seat_at seats (suc i) = get_or seats i (first_seat [])

unfoldable pub with_seat : List Seat → ℕ → Seat → List Seat
with_seat seats zero seat = seats
with_seat seats (suc i) seat = set seats i seat

-- the exchanges that remain lead client and connection to where they rest
pub record IsSeated (s : Setting) (log : List Exchange) (Rests : Seat → Type 0) (seat : Seat) : Type 0 where
  pub talk : Talk s seat.client log
  pub allows : AllAllowed s seat.client log
  pub answers : Answers seat.conn log
  pub rests : Rests (seat_of (client_after s seat.client log) (conn_after seat.conn log))

-- ---- clients at rest

-- one whose next transaction, the first of these, is to begin: after so many seals, where these have ended
unfoldable pub client_ready : ℕ → List Piece → ℕ → List DoneTxn → Client
client_ready place script seals done = taking_up script (record { tasks = []; looking = None; seals = seals; base = 0; answers = []; place = place; rest = []; done = done })

-- one whose transaction has its last task left
unfoldable pub client_closing : Task → ℕ → ℕ → List Answer → List Piece → ℕ → List DoneTxn → Client
client_closing task place base answers rest seals done = record { tasks = task ∷ []; looking = None; seals = seals; base = base; answers = answers; place = place; rest = rest; done = done }

unfoldable pub own_if : Bool → DoneTxn → List DoneTxn → List DoneTxn
own_if true t done = t ∷ done
own_if false t done = done

-- the transactions of a session that have ended, in order
unfoldable pub done_by : ℕ → List DoneTxn → List DoneTxn
done_by n [] = []
done_by n (t ∷ done) = own_if (eqb t.session.0 n) t (done_by n done)

-- ---- where a session rests

-- a version that so many of the turns led to
pub record IsEarlier (first : Database) (turns : List Turn) (d : Database) : Type 0 where
  pub taken : ℕ
  pub within : taken ≤ length turns
  pub leads : d ≡ replay (take taken turns) first

-- the version that a transaction began on
pub record IsBase (s : RunSetting) (w : Workload) (r : WorldRun) (base : ℕ) (d : Database) : Type 0 where
  pub earlier : IsEarlier (first_version s w) r.turns d
  pub within : base ≤ length r.older
  pub number : d.number ≡ base
  pub mode : d.same_time ≡ s.same_time

-- ready to begin, or at its end: the connection has no transaction
pub record IsReady (place : ℕ) (script : List Piece) (seals : ℕ) (done : List DoneTxn) (seat : Seat) : Type 0 where
  pub client : seat.client ≡ client_ready place script seals done
  pub conn : seat.conn ≡ idle

-- waiting for its commit's turn, which ends it either way: the connection has the transaction as it was tried on its base
pub record IsCommitting (s : RunSetting) (w : Workload) (r : WorldRun) (n : SessionNo) (place base : ℕ) (work : Work) (rest : List Piece) (tried : Tried) (seat : Seat) : Type 0 where
  pub acts : List Act
  pub version : Database
  pub begun : IsBase s w r base version
  pub plain : tried.plain ≡ going work
  pub turns : CommitTurns (session_setting s n) acts work.touched (client_closing (closes false acts) place base work.answers rest tried.seals (done_by n.0 r.plain.done)) (held_in s.key version (world_at r base).stores tried)
  pub client : seat.client ≡ client_closing (closes false acts) place base work.answers rest tried.seals (done_by n.0 r.plain.done)
  pub conn : seat.conn ≡ holds (held_in s.key version (world_at r base).stores tried)

-- waiting for its install's turn: the connection has an empty transaction
pub record IsInstalling (s : RunSetting) (w : Workload) (r : WorldRun) (n : SessionNo) (place base : ℕ) (t : TableNo) (column : ColNo) (rest : List Piece) (seals : ℕ) (seat : Seat) : Type 0 where
  pub version : Database
  pub begun : IsBase s w r base version
  pub there : HasColumnOf t column version
  pub client : seat.client ≡ client_closing (rebuilds t column) place base [] rest seals (done_by n.0 r.plain.done)
  pub conn : seat.conn ≡ holds (held_on version)

-- by where it stands in the plain run
unfoldable pub RestsAt : RunSetting → Workload → WorldRun → SessionNo → Position → Seat → Type 0
RestsAt s w r n (ready place script) seat = IsReady place script (session_at r.sessions n.0).tried.seals (done_by n.0 r.plain.done) seat
RestsAt s w r n (committing place base work rest) seat = IsCommitting s w r n place base work rest (session_at r.sessions n.0).tried seat
RestsAt s w r n (installing place base t column rest) seat = IsInstalling s w r n place base t column rest (session_at r.sessions n.0).tried.seals seat

unfoldable pub Rests : RunSetting → Workload → WorldRun → SessionNo → Seat → Type 0
Rests s w r n seat = RestsAt s w r n (position_at r.plain.positions n.0) seat
