use Rattle.table_model.proofs.SealedTables.{operations_stand}
use Rattle.table_model.proofs.standing_laws.operations_stand.Goals as goal

pub returns : goal.returns
returns g c = operations_stand
