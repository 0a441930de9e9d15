use Rattle.table_model.proofs.Sealed.{empty_stands}
use Rattle.table_model.proofs.standing_laws.empty_stands.Goals as goal

pub returns : goal.returns
returns g c = empty_stands
