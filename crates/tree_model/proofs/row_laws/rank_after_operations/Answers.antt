use Rattle.tree_model.proofs.RankLaws.{rank_after_operations}
use Rattle.tree_model.proofs.row_laws.rank_after_operations.Goals as goal

pub returns : goal.returns
returns g c = rank_after_operations
