use Rattle.table_model.proofs.SealedTables.{install_stands}
use Rattle.table_model.proofs.standing_laws.install_stands.Goals as goal

pub returns : goal.returns
returns g c = install_stands
