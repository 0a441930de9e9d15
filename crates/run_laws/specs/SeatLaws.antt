-- All sessions of a run at once, each with what its client and its connection are: statements.
use Rattle.std.specs.Prelude.{◌≡◌, ◌≤◌, List, map, length}
use Rattle.mope_base.specs.declared.numbers.SessionNo.{SessionNo}
use Rattle.versions.specs.Databases.{Database}
use Rattle.workload.specs.declared.script.Workload.{Workload}
use Rattle.transaction_laws.specs.Standing.{Stands}
use Rattle.run_laws.specs.Worlds.{RunSetting, session_setting, first_version}
use Rattle.run_laws.specs.WorldRuns.{WorldRun, world_turn}
use Rattle.run_laws.specs.Schedules.{Underway, due_at, first_underway}
use Rattle.run_laws.specs.Seats.{Seat, first_seat, seat_at, IsSeated, Rests}
use Rattle.run_laws.specs.TellingLaws.{IsReached, version_now}

-- a number of one of the sessions
pub record IsSession (w : Workload) (n : SessionNo) : Type 0 where
  pub from : 1 ≤ n.0
  pub to : n.0 ≤ length w.sessions

-- a run under way is upheld by a version and by as many seats as there are sessions: the version is what the turns lead to, and stands for the
-- world; and the exchanges that remain of each session lead its client and connection to where it rests
pub record IsUpheld (s : RunSetting) (w : Workload) (u : Underway) (d : Database) (seats : List Seat) : Type 0 where
  pub reached : IsReached s w u.run
  pub leads : d ≡ version_now s w u.run
  pub stands : Stands s.key d u.run.current
  pub many : length seats ≡ length w.sessions
  pub many_due : length u.due ≡ length w.sessions
  pub seated : (n : SessionNo) → IsSession w n → IsSeated (session_setting s n) (due_at u.due n.0) (Rests s w u.run n) (seat_at seats n.0)

-- so it is before the first entry
abbrev pub StartIsUpheld : Type 0
StartIsUpheld = (s : RunSetting) (w : Workload) → IsUpheld s w (first_underway s w) (first_version s w) (map first_seat w.sessions)

-- where a session rests stays when another one takes a turn
abbrev pub OthersStay : Type 0
OthersStay = (s : RunSetting) (w : Workload) (r : WorldRun) (n other : SessionNo) (seat : Seat) → (other.0 ≡ n.0 → ⊥) → Rests s w r other seat → Rests s w (world_turn s r n) other seat
