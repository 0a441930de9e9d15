use Rattle.table_model.proofs.SameTables.{same_is_equivalence}
use Rattle.table_model.proofs.store_laws.same_is_equivalence.Goals as goal

pub returns : goal.returns
returns g c = same_is_equivalence _
