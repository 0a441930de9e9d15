use Rattle.tree_model.proofs.TalliedRows.{one_more_row}
use Rattle.tree_model.proofs.tally_laws.one_more_row.Goals as goal

pub returns : goal.returns
returns c = one_more_row
