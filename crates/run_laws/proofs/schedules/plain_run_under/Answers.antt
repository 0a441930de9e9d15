use Rattle.run_laws.proofs.UnderSchedule.{plain_run_under}
use Rattle.run_laws.proofs.schedules.plain_run_under.Goals as goal

pub returns : goal.returns
returns c = plain_run_under
