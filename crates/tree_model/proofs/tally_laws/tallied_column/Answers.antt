use Rattle.tree_model.proofs.TalliedItems.{tallied_column}
use Rattle.tree_model.proofs.tally_laws.tallied_column.Goals as goal

pub returns : goal.returns
returns g c = tallied_column
