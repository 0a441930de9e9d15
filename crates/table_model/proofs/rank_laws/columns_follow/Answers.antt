use Rattle.table_model.proofs.ByIndex.{columns_follow}
use Rattle.table_model.proofs.rank_laws.columns_follow.Goals as goal

pub returns : goal.returns
returns g c = columns_follow
