use Rattle.run_laws.proofs.NoSession.{entries_go_on}
use Rattle.run_laws.proofs.schedules.entries_go_on.Goals as goal

pub returns : goal.returns
returns c = entries_go_on
