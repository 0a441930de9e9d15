use Rattle.run_laws.proofs.SchedulesComputed.{rebuild_under_walk}
use Rattle.run_laws.proofs.schedules.rebuild_under_walk.Goals as goal

pub returns : goal.returns
returns c = rebuild_under_walk
