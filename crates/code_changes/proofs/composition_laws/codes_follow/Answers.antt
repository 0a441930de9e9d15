use Rattle.code_changes.proofs.Following.{codes_follow}
use Rattle.code_changes.proofs.composition_laws.codes_follow.Goals as goal

pub returns : goal.returns
returns g c = codes_follow
