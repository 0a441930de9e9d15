use Rattle.transaction_laws.proofs.FindingConstants.{constants_meet}
use Rattle.transaction_laws.proofs.laws.constants_meet.Goals as goal

pub returns : goal.returns
returns c = constants_meet
