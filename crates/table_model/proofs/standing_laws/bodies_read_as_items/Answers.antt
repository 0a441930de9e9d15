use Rattle.table_model.proofs.Sealed.{bodies_read_as_items}
use Rattle.table_model.proofs.standing_laws.bodies_read_as_items.Goals as goal

pub returns : goal.returns
returns g c = bodies_read_as_items
