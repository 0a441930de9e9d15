use Rattle.run_laws.proofs.ScheduleLemmas.{steps_finish}
use Rattle.run_laws.proofs.schedules.steps_finish.Goals as goal

pub returns : goal.returns
returns c = steps_finish
