use Rattle.tree_model.proofs.TalliedRows.{tallied_more}
use Rattle.tree_model.proofs.tally_laws.tallied_more.Goals as goal

pub returns : goal.returns
returns c = tallied_more
