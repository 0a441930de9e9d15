-- The run under way that is followed finishes the session as the one before.
use Rattle.std.proofs.Common.{◌≡◌, ℕ}
use Rattle.workload.specs.Validity.{IsValid}
use Rattle.workload.specs.declared.script.Workload.{Workload}
use Rattle.proxy.specs.declared.outcomes.Settings.{Settings}
use Rattle.run_laws.specs.Schedules.{Underway}
use Rattle.step_core.specs.Cores.{Follows}
use Rattle.step_core.specs.Endings.{FirstFinished}
use Rattle.step_core.proofs.Ended.{Nears, work_by}
use Rattle.step_core.proofs.stepping.Core.end.Given as goal

abbrev pub invariant-exchanges : goal.invariant-exchanges
invariant-exchanges g l =
    ((settings : Settings) (w : Workload) (u : Underway) → IsValid w → Follows settings w u l.fn.self → Nears settings w u l.fn.session l.self (g.H.Watch.tells l.fn.watch) (g.H.Watch.tells l.watch))
    × ((k : ℕ) → FirstFinished k l.fn.self.sittings → FirstFinished k l.self.sittings)

abbrev pub decreases-exchanges : goal.decreases-exchanges
decreases-exchanges g l = work_by l.fn.session.0 l.self.sittings
