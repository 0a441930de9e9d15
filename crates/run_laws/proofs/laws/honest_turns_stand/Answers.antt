use Rattle.run_laws.proofs.HonestTurns.{honest_turns_stand}
use Rattle.run_laws.proofs.laws.honest_turns_stand.Goals as goal

pub returns : goal.returns
returns c = honest_turns_stand
