use Rattle.table_model.proofs.Computed.{follows}
use Rattle.table_model.proofs.examples.rows_follow_items.Goals as goal

pub returns : goal.returns
returns c = follows
