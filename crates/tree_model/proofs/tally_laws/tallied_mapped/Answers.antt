use Rattle.tree_model.proofs.TalliedRows.{tallied_mapped}
use Rattle.tree_model.proofs.tally_laws.tallied_mapped.Goals as goal

pub returns : goal.returns
returns c = tallied_mapped
