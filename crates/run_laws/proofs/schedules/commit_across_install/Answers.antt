use Rattle.run_laws.proofs.SchedulesComputed.{commit_across_install}
use Rattle.run_laws.proofs.schedules.commit_across_install.Goals as goal

pub returns : goal.returns
returns c = commit_across_install
