use Rattle.tree_model.proofs.Ordered.{IsPlaceOf-place}
use Rattle.tree_model.proofs.laws.place_is_within.Goals as goal

pub returns : goal.returns
returns c = IsPlaceOf-place
