use Rattle.run_laws.proofs.SchedulesComputed.{ended_is_skipped}
use Rattle.run_laws.proofs.schedules.ended_is_skipped.Goals as goal

pub returns : goal.returns
returns c = ended_is_skipped
