-- The run under a schedule is that of its turns, and so stands.
use Rattle.std.proofs.Common.{sym, ◌∙◌, ap, subst}
use Rattle.run_laws.specs.WorldRuns.{WorldRun}
use Rattle.run_laws.specs.RunLaws.{RunStands}
use Rattle.run_laws.specs.Schedules.{turns_under}
use Rattle.run_laws.specs.ScheduleLaws.{PlainRunUnder, RunUnderStands}
use Rattle.run_laws.proofs.ScheduleLemmas.{plain-run, turns_under_give_run}
use Rattle.run_laws.proofs.Standing.{run_stands}

pub plain_run_under : PlainRunUnder
plain_run_under s w schedule = ap (λ (r : WorldRun). r.plain) (sym (turns_under_give_run s w schedule)) ∙ plain-run s w (turns_under s w schedule)

pub run_under_stands : RunUnderStands
run_under_stands s w schedule valid = subst (λ (r : WorldRun). RunStands s w r) (turns_under_give_run s w schedule) (run_stands s w valid (turns_under s w schedule))
