use Rattle.tree_model.proofs.TalliedRows.{tallied_fewer}
use Rattle.tree_model.proofs.tally_laws.tallied_fewer.Goals as goal

pub returns : goal.returns
returns c = tallied_fewer
