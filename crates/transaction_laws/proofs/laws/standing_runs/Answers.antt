use Rattle.transaction_laws.proofs.StandingVersions.{standing_runs}
use Rattle.transaction_laws.proofs.laws.standing_runs.Goals as goal

pub returns : goal.returns
returns c = standing_runs
