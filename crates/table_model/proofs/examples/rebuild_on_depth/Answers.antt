use Rattle.table_model.proofs.Computed.{rebuilds}
use Rattle.table_model.proofs.examples.rebuild_on_depth.Goals as goal

pub returns : goal.returns
returns c = rebuilds
