use Rattle.tree_model.proofs.RankLaws.{carried_appends}
use Rattle.tree_model.proofs.row_laws.carried_appends.Goals as goal

pub returns : goal.returns
returns g c = carried_appends
