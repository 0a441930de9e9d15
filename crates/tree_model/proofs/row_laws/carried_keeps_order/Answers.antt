use Rattle.tree_model.proofs.RankLaws.{carried_keeps_order}
use Rattle.tree_model.proofs.row_laws.carried_keeps_order.Goals as goal

pub returns : goal.returns
returns g c = carried_keeps_order
