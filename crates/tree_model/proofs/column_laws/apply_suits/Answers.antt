use Rattle.tree_model.proofs.Suits.{SuitsMode-apply}
use Rattle.tree_model.proofs.column_laws.apply_suits.Goals as goal

pub returns : goal.returns
returns g c = SuitsMode-apply
