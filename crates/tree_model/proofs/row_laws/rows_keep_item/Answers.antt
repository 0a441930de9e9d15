use Rattle.tree_model.proofs.RankLaws.{rows_keep_item}
use Rattle.tree_model.proofs.row_laws.rows_keep_item.Goals as goal

pub returns : goal.returns
returns g c = rows_keep_item
