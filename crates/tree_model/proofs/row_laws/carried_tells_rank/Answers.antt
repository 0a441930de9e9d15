use Rattle.tree_model.proofs.RankLaws.{carried_tells_rank}
use Rattle.tree_model.proofs.row_laws.carried_tells_rank.Goals as goal

pub returns : goal.returns
returns g c = carried_tells_rank
