use Rattle.tree_model.proofs.TalliedItems.{most_within_rows}
use Rattle.tree_model.proofs.tally_laws.most_within_rows.Goals as goal

pub returns : goal.returns
returns g c = most_within_rows
