-- What a session does next, by its client and connection, and that each step of a run under way upholds it: statements.
use Rattle.std.specs.Prelude.{◌≡◌, ℕ, suc, Bool, true, false, ltb, List, [], ◌∷◌, ◌++◌, Option, Some, None}
use Rattle.mope_base.specs.declared.numbers.TableNo.{TableNo}
use Rattle.mope_base.specs.declared.numbers.ColNo.{ColNo}
use Rattle.mope_base.specs.declared.numbers.SessionNo.{SessionNo}
use Rattle.versions.specs.declared.turn.Turn.{Turn}
use Rattle.versions.specs.Databases.{Database, stamps_at}
use Rattle.versions.specs.Newer.{lowest_newer, last_change}
use Rattle.versions.specs.Turns.{after_turn}
use Rattle.walk_proto.specs.declared.messages.Exchange.{Exchange}
use Rattle.walk_proto.specs.declared.messages.How.TheVariants as how
use Rattle.walk_proto.specs.declared.messages.Reply.{Reply}
use Rattle.walk_proto.specs.declared.messages.Reply.TheVariants as reply
use Rattle.walk_proto.specs.declared.messages.Request.{Request}
use Rattle.walk_proto.specs.declared.messages.Request.TheVariants as request
use Rattle.workload.specs.declared.script.Workload.{Workload}
use Rattle.workload.specs.Run.{Position, ready, committing, installing, position_at}
use Rattle.workload.specs.Validity.{IsValid}
use Rattle.proxy.specs.Allowed.{allowed}
use Rattle.proxy.specs.Client.{wants, hears}
use Rattle.proxy.specs.Talk.{HasEnded}
use Rattle.server_conn.specs.Connections.{Held, held_on, commit, install, Conn, idle, begins, holds, awaits, Served, replies, wants_begin, wants_commit, wants_install, Step}
use Rattle.server_conn.specs.Serving.{serve, began, ended}
use Rattle.transaction_laws.specs.Ends.{MeetsTurn}
use Rattle.transaction_laws.specs.Walks.{exchanged}
use Rattle.run_laws.specs.Worlds.{RunSetting, session_setting, first_version}
use Rattle.run_laws.specs.WorldRuns.{session_at}
use Rattle.run_laws.specs.Schedules.{Underway, due_at, first_underway, stepped}
use Rattle.run_laws.specs.ScheduleLaws.{HasNothingLeft}
use Rattle.run_laws.specs.Seats.{Seat, seat_of, seat_at, with_seat, IsEarlier, done_by}
use Rattle.run_laws.specs.TellingLaws.{begin_told, commit_told, install_told}
use Rattle.run_laws.specs.SeatLaws.{IsSession, IsUpheld}

-- the seat of a session after a reply to its request
unfoldable pub seat_heard : RunSetting → SessionNo → Reply → Conn → Seat → Seat
seat_heard s n answer conn seat = seat_of (hears (session_setting s n) seat.client answer) conn

-- the exchanges that a session has made: with those that remain they are its log in the run, which the view shows
pub record HasSaid (u : Underway) (n : SessionNo) (said : List Exchange) : Type 0 where
  pub whole : said ++ due_at u.due n.0 ≡ (session_at u.run.sessions n.0).log

-- the first exchange that remains is the one that its client wants and its connection answers at once; the client allows the reply
pub record SaysDue (s : RunSetting) (w : Workload) (u : Underway) (d : Database) (seats : List Seat) (n : SessionNo) (e : Exchange) : Type 0 where
  pub wanted : wants (session_setting s n) (seat_at seats n.0).client ≡ Some e.request
  pub answered : (serve e.request (seat_at seats n.0).conn).served ≡ replies e.reply
  pub allows : allowed (seat_at seats n.0).client e.reply ≡ true
  pub said : (before : List Exchange) → HasSaid u n before → HasSaid (stepped s u n) n (before ++ e ∷ [])
  pub upheld : IsUpheld s w (stepped s u n) d (with_seat seats n.0 (seat_heard s n e.reply (serve e.request (seat_at seats n.0).conn).conn (seat_at seats n.0)))

-- its client wants a request for which its connection asks for a turn; the turn gives it this answer, which the client allows; and it is
-- the next turn of the run
pub record TakesTurn (s : RunSetting) (w : Workload) (u : Underway) (d : Database) (seats : List Seat) (n : SessionNo) (r : Request) (asks : Served) (waiting : Conn) (answer : Reply) (after : Step) (conn : Conn) (turn : Turn) : Type 0 where
  pub meets : MeetsTurn (session_setting s n) (seat_at seats n.0).client (seat_at seats n.0).conn r asks waiting answer after (hears (session_setting s n) (seat_at seats n.0).client answer) conn
  pub turns : (stepped s u n).run.turns ≡ u.run.turns ++ turn ∷ []
  pub said : (before : List Exchange) → HasSaid u n before → HasSaid (stepped s u n) n (before ++ exchanged r answer ∷ [])
  pub upheld : IsUpheld s w (stepped s u n) (after_turn turn.what d) (with_seat seats n.0 (seat_heard s n answer conn (seat_at seats n.0)))

-- ---- its turns

abbrev pub TakesBegin : RunSetting → Workload → Underway → Database → List Seat → SessionNo → Type 0
TakesBegin s w u d seats n = TakesTurn s w u d seats n request.Begin wants_begin begins (reply.Ended how.Began 0 d.number) (began d) (holds (held_on d)) (begin_told n d)

-- the answer of a commit's turn, which may make the version of a number, by whether a table that it touched was written since
unfoldable pub commit_reply : Option (TableNo × ℕ) → ℕ → Reply
commit_reply None number = reply.Ended how.Committed 0 number
commit_reply (Some newer) number = reply.Ended how.Conflict newer.0.0 newer.1

unfoldable pub commit_step : Option (TableNo × ℕ) → ℕ → Step
commit_step None number = ended how.Committed 0 number
commit_step (Some newer) number = ended how.Conflict newer.0.0 newer.1

-- the connection has a transaction on an earlier version, whose operations the turn commits
pub record TakesCommit (s : RunSetting) (w : Workload) (u : Underway) (d : Database) (seats : List Seat) (n : SessionNo) : Type 0 where
  pub held : Held
  pub holds_it : (seat_at seats n.0).conn ≡ holds held
  pub earlier : IsEarlier (first_version s w) u.run.turns held.base
  pub takes : (let newer : Option (TableNo × ℕ) = lowest_newer 0 d.stamps held.base.number held.touched in
      TakesTurn s w u d seats n (request.End true) wants_commit (awaits held commit) (commit_reply newer (suc d.number)) (commit_step newer (suc d.number)) idle (commit_told n newer held.ops d))

-- the answer of an install's turn on a table, by whether it was changed since, by the version of a number
unfoldable pub install_reply : TableNo → Bool → ℕ → ℕ → Reply
install_reply t true newer number = reply.Ended how.Stale t.0 newer
install_reply t false newer number = reply.Ended how.Installed 0 number

unfoldable pub install_step : TableNo → Bool → ℕ → ℕ → Step
install_step t true newer number = ended how.Stale t.0 newer
install_step t false newer number = ended how.Installed 0 number

-- the connection has an empty transaction on an earlier version, and the turn balances a column's tree
pub record TakesInstall (s : RunSetting) (w : Workload) (u : Underway) (d : Database) (seats : List Seat) (n : SessionNo) (t : TableNo) (column : ColNo) : Type 0 where
  pub base : Database
  pub holds_it : (seat_at seats n.0).conn ≡ holds (held_on base)
  pub earlier : IsEarlier (first_version s w) u.run.turns base
  pub takes : (let newer : ℕ = last_change (stamps_at d.stamps t.0) in
      let stale : Bool = ltb base.number newer in
      TakesTurn s w u d seats n (request.Rebuild t column) (wants_install t column) (awaits (held_on base) (install t column)) (install_reply t stale newer (suc d.number)) (install_step t stale newer (suc d.number)) idle (install_told n t column stale newer d))

-- ---- its end

-- nothing remains of it; its client has ended all transactions of its script, and they are those of the run; its connection has none
pub record IsAtEnd (s : RunSetting) (u : Underway) (seats : List Seat) (n : SessionNo) : Type 0 where
  pub left : HasNothingLeft u n
  pub said : (before : List Exchange) → HasSaid u n before → before ≡ (session_at u.run.sessions n.0).log
  pub ended : HasEnded (session_setting s n) (seat_at seats n.0).client
  pub done : (seat_at seats n.0).client.done ≡ done_by n.0 u.run.plain.done
  pub conn : (seat_at seats n.0).conn ≡ idle

-- ---- what it has said

-- nothing before the first entry
abbrev pub StartHasSaid : Type 0
StartHasSaid = (s : RunSetting) (w : Workload) (n : SessionNo) → HasSaid (first_underway s w) n []

-- and nothing more by the steps of others
abbrev pub OthersHaveSaid : Type 0
OthersHaveSaid = (s : RunSetting) (u : Underway) (n other : SessionNo) (said : List Exchange) → (other.0 ≡ n.0 → ⊥) → HasSaid u other said → HasSaid (stepped s u n) other said

-- ---- what it does next

-- by the exchanges that remain, and by where it stands
unfoldable pub NextBy : RunSetting → Workload → Underway → Database → List Seat → SessionNo → List Exchange → Position → Type 0
NextBy s w u d seats n (e ∷ log) p = SaysDue s w u d seats n e
NextBy s w u d seats n [] (ready place []) = IsAtEnd s u seats n
NextBy s w u d seats n [] (ready place (p ∷ rest)) = TakesBegin s w u d seats n
NextBy s w u d seats n [] (committing place base work rest) = TakesCommit s w u d seats n
NextBy s w u d seats n [] (installing place base t column rest) = TakesInstall s w u d seats n t column

-- each session of a valid workload makes its next step, and the run under way stays upheld
abbrev pub StepsUphold : Type 0
StepsUphold = (s : RunSetting) (w : Workload) (u : Underway) (d : Database) (seats : List Seat) (n : SessionNo) → IsValid w → IsUpheld s w u d seats → IsSession w n
    → NextBy s w u d seats n (due_at u.due n.0) (position_at u.run.plain.positions n.0)

-- an entry of a number that is none of the sessions' counts for nothing
abbrev pub NoneIsSkipped : Type 0
NoneIsSkipped = (s : RunSetting) (w : Workload) (u : Underway) (d : Database) (seats : List Seat) (n : SessionNo) → IsUpheld s w u d seats → (IsSession w n → ⊥) → stepped s u n ≡ u

-- ---- what it does next, as its client and its connection show it

-- by the request that its client wants, and what comes of it
unfoldable pub StepBy : RunSetting → Workload → Underway → Database → List Seat → SessionNo → Request → Served → Type 0
StepBy s w u d seats n r (replies answer) = SaysDue s w u d seats n (exchanged r answer)
StepBy s w u d seats n r wants_begin = TakesBegin s w u d seats n
StepBy s w u d seats n r wants_commit = TakesCommit s w u d seats n
StepBy s w u d seats n r (wants_install t column) = TakesInstall s w u d seats n t column

abbrev pub StepsAreShown : Type 0
StepsAreShown = (s : RunSetting) (w : Workload) (u : Underway) (d : Database) (seats : List Seat) (n : SessionNo) → IsValid w → IsUpheld s w u d seats → IsSession w n → (r : Request) → wants (session_setting s n) (seat_at seats n.0).client ≡ Some r
    → StepBy s w u d seats n r (serve r (seat_at seats n.0).conn).served

-- where its client wants nothing more it is at its end
abbrev pub EndIsSeated : Type 0
EndIsSeated = (s : RunSetting) (w : Workload) (u : Underway) (d : Database) (seats : List Seat) (n : SessionNo) → IsValid w → IsUpheld s w u d seats → IsSession w n → HasEnded (session_setting s n) (seat_at seats n.0).client → IsAtEnd s u seats n
