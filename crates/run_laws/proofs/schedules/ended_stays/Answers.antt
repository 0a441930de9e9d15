use Rattle.run_laws.proofs.ScheduleLemmas.{ended_stays}
use Rattle.run_laws.proofs.schedules.ended_stays.Goals as goal

pub returns : goal.returns
returns c = ended_stays
