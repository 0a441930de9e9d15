use Rattle.table_model.proofs.SealedTables.{empties_stand}
use Rattle.table_model.proofs.standing_laws.empties_stand.Goals as goal

pub returns : goal.returns
returns g c = empties_stand
