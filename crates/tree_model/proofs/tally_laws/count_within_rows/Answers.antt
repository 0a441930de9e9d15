use Rattle.tree_model.proofs.TalliedRows.{count_within_rows}
use Rattle.tree_model.proofs.tally_laws.count_within_rows.Goals as goal

pub returns : goal.returns
returns c = count_within_rows
