use Rattle.run_laws.proofs.OwnTurns.{run_is_honest}
use Rattle.run_laws.proofs.laws.run_is_honest.Goals as goal

pub returns : goal.returns
returns c = run_is_honest
