use Rattle.tree_model.proofs.RankLaws.{new_rows_stand}
use Rattle.tree_model.proofs.row_laws.new_rows_stand.Goals as goal

pub returns : goal.returns
returns g c = new_rows_stand
