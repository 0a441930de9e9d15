use Rattle.path_code.proofs.Rising.{tree_codes_compare}
use Rattle.path_code.proofs.laws.tree_codes_compare.Goals as goal

pub returns : goal.returns
returns g c = tree_codes_compare
