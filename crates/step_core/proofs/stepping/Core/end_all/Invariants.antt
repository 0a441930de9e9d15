-- So many sessions have come to their ends.
use Rattle.workload.specs.Validity.{IsValid}
use Rattle.workload.specs.declared.script.Workload.{Workload}
use Rattle.proxy.specs.declared.outcomes.Settings.{Settings}
use Rattle.run_laws.specs.Schedules.{Underway}
use Rattle.step_core.specs.Cores.{Follows}
use Rattle.step_core.specs.Endings.{EndsFirst}
use Rattle.step_core.proofs.stepping.Core.end_all.Given as goal

abbrev pub invariant-sessions : goal.invariant-sessions
invariant-sessions g l = (settings : Settings) (w : Workload) (u : Underway) → IsValid w → Follows settings w u l.fn.self → EndsFirst settings w u l.i l.self (g.H.Watch.tells l.fn.watch) (g.H.Watch.tells l.watch)
