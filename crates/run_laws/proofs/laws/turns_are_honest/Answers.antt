use Rattle.run_laws.proofs.OwnTurns.{turns_are_honest}
use Rattle.run_laws.proofs.laws.turns_are_honest.Goals as goal

pub returns : goal.returns
returns c = turns_are_honest
