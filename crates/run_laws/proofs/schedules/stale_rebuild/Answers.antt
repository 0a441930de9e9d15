use Rattle.run_laws.proofs.SchedulesComputed.{stale_rebuild}
use Rattle.run_laws.proofs.schedules.stale_rebuild.Goals as goal

pub returns : goal.returns
returns c = stale_rebuild
