use Rattle.run_laws.proofs.UnderSchedule.{run_under_stands}
use Rattle.run_laws.proofs.schedules.run_under_stands.Goals as goal

pub returns : goal.returns
returns c = run_under_stands
