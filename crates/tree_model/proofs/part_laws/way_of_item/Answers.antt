use Rattle.tree_model.proofs.Parts.{way_of_item}
use Rattle.tree_model.proofs.part_laws.way_of_item.Goals as goal

pub returns : goal.returns
returns g c = way_of_item
