use Rattle.run_laws.proofs.HonestTurns.{next_is_honest}
use Rattle.run_laws.proofs.laws.next_is_honest.Goals as goal

pub returns : goal.returns
returns c = next_is_honest
