-- A workload that was run by a core under a schedule. The definition is our own.
use Rattle.std.specs.Prelude.{◌≡◌, ℕ, zero, suc, List, [], ◌∷◌, ◌++◌, map}
use Rattle.command_words.specs.declared.order.Schedule.{Schedule}
use Rattle.mope_base.specs.Lists.{Each}
use Rattle.mope_base.specs.declared.numbers.SessionNo.{SessionNo}
use Rattle.mope_top.specs.Replays.{AreTurnsBy, rounds}
use Rattle.proxy.specs.declared.outcomes.Finished.{Finished}
use Rattle.proxy.specs.declared.outcomes.Settings.{Settings}
use Rattle.run_laws.specs.ScheduleLaws.{HasNothingLeft}
use Rattle.run_laws.specs.Schedules.{Underway, first_underway, scheduled, turns_under}
use Rattle.run_laws.specs.TellingLaws.{version_now}
use Rattle.run_laws.specs.WorldRuns.{world_run}
use Rattle.server_conn.specs.declared.receipt.Receipt.{Receipt}
use Rattle.step_core.specs.Cores.{Cored, Follows, HasReadable, finished_in, run_setting}
use Rattle.step_core.specs.Shown.{AreAll, AreMade, GrowsTo}
use Rattle.step_core.specs.Sittings.{HeardBy}
use Rattle.txn_core.specs.Courses.{Course}
use Rattle.walk_proto.specs.declared.messages.Exchange.{Exchange}
use Rattle.workload.specs.declared.script.Workload.{Workload}
use Rattle.workload.specs.Run.{session_numbers}

-- a session's client heard a reply, and the others are as they were
abbrev pub Hears : SessionNo → Cored → Cored → Type 0
Hears n c d = HeardBy n c.sittings d.sittings

-- so many exchanges lead from one core to another
unfoldable pub Leads : ℕ → Cored → Cored → Type 0
Leads zero c d = d.sittings ≡ c.sittings
Leads (suc count) c d = (n : SessionNo) × ((e : Cored) × Hears n c e × Leads count e d)

-- from a run under way, rounds of these sessions have led to one of which none of them has anything left
pub record RoundsOn (settings : Settings) (w : Workload) (u : Underway) (sessions : List SessionNo) (shown : List (SessionNo × Exchange)) (c : Cored) (before after : List (SessionNo × Receipt) → Type 0) : Type 0 where
  pub count : ℕ
  pub follows : Follows settings w (scheduled (run_setting settings) u (rounds count sessions)) c
  pub rest : Each (HasNothingLeft (scheduled (run_setting settings) u (rounds count sessions))) sessions
  pub shows : GrowsTo before after shown (AreMade w (scheduled (run_setting settings) u (rounds count sessions)))

-- the entries that a schedule gives have led from the start to a run under way that a core follows, and a watch was shown its exchanges
pub record HasCome (settings : Settings) (w : Workload) (schedule : Schedule) (c : Cored) (before after : List (SessionNo × Receipt) → Type 0) : Type 0 where
  pub entries : List SessionNo
  pub by : AreTurnsBy (run_setting settings) w schedule (turns_under (run_setting settings) w entries)
  pub follows : Follows settings w (scheduled (run_setting settings) (first_underway (run_setting settings) w) entries) c
  pub shows : GrowsTo before after [] (AreMade w (scheduled (run_setting settings) (first_underway (run_setting settings) w) entries))

-- what the scripts came to and the state are those of the run of the turns that the schedule gives, and a watch was shown its exchanges
pub record Ran (settings : Settings) (w : Workload) (schedule : Schedule) (finished : List Finished) (state : Course) (before after : List (SessionNo × Receipt) → Type 0) : Type 0 where
  pub turns : List SessionNo
  pub by : AreTurnsBy (run_setting settings) w schedule turns
  pub scripts : finished ≡ map (finished_in settings.keep (world_run (run_setting settings) w turns)) (session_numbers 1 w.sessions)
  pub readable : Each HasReadable finished
  pub taken : state.turns ≡ (world_run (run_setting settings) w turns).turns
  pub current : state.current ≡ version_now (run_setting settings) w (world_run (run_setting settings) w turns)
  pub shows : GrowsTo before after [] (AreAll w (world_run (run_setting settings) w turns))
