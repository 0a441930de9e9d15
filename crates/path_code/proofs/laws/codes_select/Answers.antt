use Rattle.path_code.proofs.Rising.{codes_select}
use Rattle.path_code.proofs.laws.codes_select.Goals as goal

pub returns : goal.returns
returns g c = codes_select
