use Rattle.table_model.proofs.Sealed.{operations_keep_standing}
use Rattle.table_model.proofs.standing_laws.operations_keep_standing.Goals as goal

pub returns : goal.returns
returns g c = operations_keep_standing
