use Rattle.tree_model.proofs.Walked.{walk_goes_to_place}
use Rattle.tree_model.proofs.part_laws.walk_goes_to_place.Goals as goal

pub returns : goal.returns
returns g c = walk_goes_to_place
