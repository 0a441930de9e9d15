use Rattle.tree_model.proofs.Outside.{part_stays_outside}
use Rattle.tree_model.proofs.part_laws.part_stays_outside.Goals as goal

pub returns : goal.returns
returns g c = part_stays_outside
