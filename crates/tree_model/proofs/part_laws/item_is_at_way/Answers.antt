use Rattle.tree_model.proofs.Parts.{item_at}
use Rattle.tree_model.proofs.part_laws.item_is_at_way.Goals as goal

pub returns : goal.returns
returns g c = item_at
