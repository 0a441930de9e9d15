use Rattle.run_laws.proofs.ScheduleLemmas.{turns_under_are_complete}
use Rattle.run_laws.proofs.schedules.turns_under_are_complete.Goals as goal

pub returns : goal.returns
returns c = turns_under_are_complete
