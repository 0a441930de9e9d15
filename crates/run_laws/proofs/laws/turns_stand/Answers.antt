use Rattle.run_laws.proofs.Standing.{turns_stand}
use Rattle.run_laws.proofs.laws.turns_stand.Goals as goal

pub returns : goal.returns
returns c = turns_stand
