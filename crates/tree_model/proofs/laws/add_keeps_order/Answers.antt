use Rattle.tree_model.proofs.Changes.{IsIncreasing-add_item}
use Rattle.tree_model.proofs.laws.add_keeps_order.Goals as goal

pub returns : goal.returns
returns g c = IsIncreasing-add_item
