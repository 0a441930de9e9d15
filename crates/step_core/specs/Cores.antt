-- A core as contracts see it, and the run under way that it follows. The definition is our own.
use Rattle.std.specs.Prelude.{◌≡◌, ℕ, suc, Bool, true, false, List, [], ◌∷◌, ◌++◌, map}
use Rattle.mope_base.specs.Lists.{Each}
use Rattle.mope_base.specs.Modes.{is_same_time}
use Rattle.mope_base.specs.declared.numbers.SessionNo.{SessionNo}
use Rattle.walk_proto.specs.declared.messages.Exchange.{Exchange}
use Rattle.workload.specs.declared.script.Workload.{Workload}
use Rattle.workload.specs.Run.{session_numbers}
use Rattle.proxy.specs.declared.outcomes.Finished.{Finished}
use Rattle.proxy.specs.declared.outcomes.Settings.{Settings}
use Rattle.proxy.specs.Client.{wants}
use Rattle.proxy.specs.Party.{Party, setting_of, noted_all, phase_for}
use Rattle.server_conn.specs.Handling.{Seen}
use Rattle.txn_core.specs.Courses.{Course}
use Rattle.transaction_laws.specs.Readable.{IsReadable}
use Rattle.run_laws.specs.Worlds.{RunSetting, first_version}
use Rattle.run_laws.specs.WorldRuns.{WorldRun, session_at, world_finished}
use Rattle.run_laws.specs.Schedules.{Underway, due_at}
use Rattle.run_laws.specs.Seats.{Seat, done_by}
use Rattle.run_laws.specs.SeatLaws.{IsSession, IsUpheld}

-- a session: its proxy and its connection
pub record Sitting : Type 0 where
  pub party : Party
  pub conn : Seen

-- a core: the state on which turns are taken, the sessions in order, and whether it is spent
pub record Cored : Type 0 where
  pub state : Course
  pub sittings : List Sitting
  pub spent : Bool

-- what the run of the world is given
unfoldable pub run_setting : Settings → RunSetting
run_setting settings = record { key = settings.key.bytes; first = settings.first; same_time = is_same_time settings.mode }

unfoldable pub seat_in : Sitting → Seat
seat_in x = record { client = x.party.client; conn = x.conn.conn }

-- a session has made these exchanges, which some bytes give and its proxy keeps if it is to keep them, and wants what its client wants
pub record HasMade (settings : Settings) (n : SessionNo) (made : List Exchange) (x : Sitting) : Type 0 where
  pub setting : x.party.setting ≡ setting_of settings n
  pub keep : x.party.keep ≡ settings.keep
  pub log : x.party.log ≡ noted_all settings.keep [] made
  pub phase : x.party.phase ≡ phase_for (wants x.party.setting x.party.client)
  pub fresh : x.conn.spent ≡ false
  pub readable : Each IsReadable made

-- the sessions from a number on have made their exchanges but for those that remain
unfoldable pub HaveMade : Settings → Underway → ℕ → List Sitting → Type 0
HaveMade settings u number [] = Unit {0}
HaveMade settings u number (x ∷ sittings) =
    ((made : List Exchange) × ((session_at u.run.sessions number).log ≡ made ++ due_at u.due number) × HasMade settings (record { 0 = number }) made x)
    × HaveMade settings u (suc number) sittings

-- a core follows a run under way: its turns are the run's, its version and its sessions uphold it, and some bytes give each exchange that
-- remains
pub record Follows (settings : Settings) (w : Workload) (u : Underway) (c : Cored) : Type 0 where
  pub first : c.state.first ≡ first_version (run_setting settings) w
  pub turns : c.state.turns ≡ u.run.turns
  pub upheld : IsUpheld (run_setting settings) w u c.state.current (map seat_in c.sittings)
  pub made : HaveMade settings u 1 c.sittings
  pub readable : (n : SessionNo) → IsSession w n → Each IsReadable (due_at u.due n.0)

-- ---- what a core ends in

-- the run at its end, from one under way: sessions 1, 2 and so on finish
unfoldable pub end_of : RunSetting → Workload → Underway → WorldRun
end_of s w u = world_finished s u.run (session_numbers 1 w.sessions)

unfoldable pub kept_if : Bool → List Exchange → List Exchange
kept_if true log = log
kept_if false log = []

-- what the script of a session came to in a run: its transactions in order, and its exchanges, if they are to be kept
unfoldable pub finished_in : Bool → WorldRun → SessionNo → Finished
finished_in keep r n = record { txns = done_by n.0 r.plain.done; log = kept_if keep (session_at r.sessions n.0).log }

-- some bytes give each exchange that was kept
abbrev pub HasReadable : Finished → Type 0
HasReadable f = Each IsReadable f.log
