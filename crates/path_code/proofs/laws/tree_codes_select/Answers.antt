use Rattle.path_code.proofs.Rising.{tree_codes_select}
use Rattle.path_code.proofs.laws.tree_codes_select.Goals as goal

pub returns : goal.returns
returns g c = tree_codes_select
