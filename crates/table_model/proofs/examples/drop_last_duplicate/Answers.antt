use Rattle.table_model.proofs.Computed.{drops_last}
use Rattle.table_model.proofs.examples.drop_last_duplicate.Goals as goal

pub returns : goal.returns
returns c = drops_last
