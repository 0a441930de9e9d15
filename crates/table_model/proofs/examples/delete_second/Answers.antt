use Rattle.table_model.proofs.Computed.{deletes}
use Rattle.table_model.proofs.examples.delete_second.Goals as goal

pub returns : goal.returns
returns c = deletes
