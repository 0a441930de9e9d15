use Rattle.tree_model.proofs.RankLaws.{values_follow}
use Rattle.tree_model.proofs.row_laws.values_follow.Goals as goal

pub returns : goal.returns
returns g c = values_follow
