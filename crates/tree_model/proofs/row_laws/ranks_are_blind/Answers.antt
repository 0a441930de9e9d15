use Rattle.tree_model.proofs.RankLaws.{ranks_are_blind}
use Rattle.tree_model.proofs.row_laws.ranks_are_blind.Goals as goal

pub returns : goal.returns
returns g c = ranks_are_blind
