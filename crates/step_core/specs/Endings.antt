-- How sessions come to their ends, one after the other. The definition is our own.
use Rattle.std.specs.Prelude.{◌≡◌, ℕ, zero, suc, List, [], ◌∷◌, drop}
use Rattle.mope_base.specs.declared.numbers.SessionNo.{SessionNo}
use Rattle.walk_proto.specs.declared.messages.Exchange.{Exchange}
use Rattle.workload.specs.Run.{session_numbers}
use Rattle.workload.specs.declared.script.Workload.{Workload}
use Rattle.proxy.specs.declared.outcomes.Settings.{Settings}
use Rattle.server_conn.specs.declared.receipt.Receipt.{Receipt}
use Rattle.run_laws.specs.ScheduleLaws.{HasNothingLeft}
use Rattle.run_laws.specs.Schedules.{Underway}
use Rattle.run_laws.specs.WorldRuns.{world_finished, world_finished_session}
use Rattle.step_core.specs.Cores.{Cored, Follows, Sitting, end_of, run_setting}
use Rattle.step_core.specs.Shown.{AreMade, GrowsTo}
use Rattle.step_core.specs.Sittings.{HasFinished}

-- the first so many sessions have finished
unfoldable pub FirstFinished : ℕ → List Sitting → Type 0
FirstFinished zero sittings = Unit {0}
FirstFinished (suc k) [] = Unit {0}
FirstFinished (suc k) (x ∷ sittings) = HasFinished x × FirstFinished k sittings

-- a session has come to its end: the core follows a run under way in which nothing of it is left, and whose run is the earlier one after the
-- session finished; a watch was shown what was said between
pub record EndsSession (settings : Settings) (w : Workload) (u : Underway) (n : SessionNo) (c : Cored) (told then : List (SessionNo × Receipt) → Type 0) : Type 0 where
  pub underway : Underway
  pub follows : Follows settings w underway c
  pub left : HasNothingLeft underway n
  pub run : underway.run ≡ world_finished_session (run_setting settings) u.run n
  pub shows : (shown : List (SessionNo × Exchange)) → AreMade w u shown → GrowsTo told then shown (AreMade w underway)

-- the first so many sessions have come to their ends: the core follows a run under way which the other sessions bring to the end of the earlier
-- one; a watch was shown what was said between
pub record EndsFirst (settings : Settings) (w : Workload) (u : Underway) (k : ℕ) (c : Cored) (told then : List (SessionNo × Receipt) → Type 0) : Type 0 where
  pub underway : Underway
  pub follows : Follows settings w underway c
  pub over : FirstFinished k c.sittings
  pub rest : world_finished (run_setting settings) underway.run (session_numbers (suc k) (drop k w.sessions)) ≡ end_of (run_setting settings) w u
  pub shows : (shown : List (SessionNo × Exchange)) → AreMade w u shown → GrowsTo told then shown (AreMade w underway)
