use Rattle.table_model.proofs.SameTables.{same_behaves}
use Rattle.table_model.proofs.store_laws.same_behaves.Goals as goal

pub returns : goal.returns
returns g c = same_behaves
