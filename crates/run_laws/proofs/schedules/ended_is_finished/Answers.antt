use Rattle.run_laws.proofs.ScheduleLemmas.{ended_is_finished}
use Rattle.run_laws.proofs.schedules.ended_is_finished.Goals as goal

pub returns : goal.returns
returns c = ended_is_finished
