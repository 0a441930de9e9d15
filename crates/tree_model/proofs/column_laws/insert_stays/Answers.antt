use Rattle.tree_model.proofs.GraftPaths.{insert-stays}
use Rattle.tree_model.proofs.column_laws.insert_stays.Goals as goal

pub returns : goal.returns
returns g c = insert-stays
