use Rattle.tree_model.proofs.Summed.{origins-map}
use Rattle.tree_model.proofs.column_laws.origins_are_blind.Goals as goal

pub returns : goal.returns
returns g c = origins-map
