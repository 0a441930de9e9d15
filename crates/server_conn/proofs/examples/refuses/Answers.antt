use Rattle.server_conn.proofs.Computed.{refuses_each}
use Rattle.server_conn.proofs.examples.refuses.Goals as goal

pub returns : goal.returns
returns c = refuses_each
