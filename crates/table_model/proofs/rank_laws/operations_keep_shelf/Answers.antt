use Rattle.table_model.proofs.ShelfSoundOps.{operations_keep_shelf}
use Rattle.table_model.proofs.rank_laws.operations_keep_shelf.Goals as goal

pub returns : goal.returns
returns g c = operations_keep_shelf
