use Rattle.path_code.proofs.Rising.{codes_order}
use Rattle.path_code.proofs.laws.codes_rise.Goals as goal

pub returns : goal.returns
returns g c = codes_order
