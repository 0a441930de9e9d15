use Rattle.tree_model.proofs.Summed.{origins-nothing}
use Rattle.tree_model.proofs.column_laws.origins_of_nothing.Goals as goal

pub returns : goal.returns
returns g c = origins-nothing
