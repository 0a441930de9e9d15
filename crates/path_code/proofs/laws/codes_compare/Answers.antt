use Rattle.path_code.proofs.Rising.{codes_compare}
use Rattle.path_code.proofs.laws.codes_compare.Goals as goal

pub returns : goal.returns
returns g c = codes_compare
