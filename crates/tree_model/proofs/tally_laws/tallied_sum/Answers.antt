use Rattle.tree_model.proofs.TalliedRows.{tallied_sum}
use Rattle.tree_model.proofs.tally_laws.tallied_sum.Goals as goal

pub returns : goal.returns
returns c = tallied_sum
