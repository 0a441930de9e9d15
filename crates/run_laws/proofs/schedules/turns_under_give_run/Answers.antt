use Rattle.run_laws.proofs.ScheduleLemmas.{turns_under_give_run}
use Rattle.run_laws.proofs.schedules.turns_under_give_run.Goals as goal

pub returns : goal.returns
returns c = turns_under_give_run
