use Rattle.tree_model.proofs.Changes.{add_item-map}
use Rattle.tree_model.proofs.laws.add_is_blind.Goals as goal

pub returns : goal.returns
returns g c = add_item-map
