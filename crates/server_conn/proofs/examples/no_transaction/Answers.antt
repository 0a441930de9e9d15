use Rattle.server_conn.proofs.Computed.{none_held}
use Rattle.server_conn.proofs.examples.no_transaction.Goals as goal

pub returns : goal.returns
returns c = none_held
