use Rattle.server_conn.proofs.Computed.{deletes}
use Rattle.server_conn.proofs.examples.deletes_one.Goals as goal

pub returns : goal.returns
returns c = deletes
