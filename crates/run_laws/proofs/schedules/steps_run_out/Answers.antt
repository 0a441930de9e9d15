use Rattle.run_laws.proofs.RunningOut.{steps_run_out}
use Rattle.run_laws.proofs.schedules.steps_run_out.Goals as goal

pub returns : goal.returns
returns c = steps_run_out
