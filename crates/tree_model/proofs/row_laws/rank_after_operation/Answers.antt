use Rattle.tree_model.proofs.RankLaws.{rank_after_operation}
use Rattle.tree_model.proofs.row_laws.rank_after_operation.Goals as goal

pub returns : goal.returns
returns g c = rank_after_operation
