use Rattle.tree_model.proofs.TalliedItems.{live_within_rows}
use Rattle.tree_model.proofs.tally_laws.live_within_rows.Goals as goal

pub returns : goal.returns
returns g c = live_within_rows
