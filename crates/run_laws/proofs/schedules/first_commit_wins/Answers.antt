use Rattle.run_laws.proofs.SchedulesComputed.{first_commit_wins}
use Rattle.run_laws.proofs.schedules.first_commit_wins.Goals as goal

pub returns : goal.returns
returns c = first_commit_wins
