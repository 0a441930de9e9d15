use Rattle.path_code.proofs.Rising.{gaps_between}
use Rattle.path_code.proofs.laws.gaps_lie_between.Goals as goal

pub returns : goal.returns
returns g c = gaps_between
