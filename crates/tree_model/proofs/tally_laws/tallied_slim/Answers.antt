use Rattle.tree_model.proofs.TalliedRows.{tallied_slim}
use Rattle.tree_model.proofs.tally_laws.tallied_slim.Goals as goal

pub returns : goal.returns
returns c = tallied_slim
