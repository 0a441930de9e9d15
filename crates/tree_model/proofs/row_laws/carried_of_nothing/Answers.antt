use Rattle.tree_model.proofs.RankLaws.{carried_of_nothing}
use Rattle.tree_model.proofs.row_laws.carried_of_nothing.Goals as goal

pub returns : goal.returns
returns g c = carried_of_nothing
