use Rattle.table_model.proofs.Computed.{lays}
use Rattle.table_model.proofs.examples.install_balances.Goals as goal

pub returns : goal.returns
returns c = lays
