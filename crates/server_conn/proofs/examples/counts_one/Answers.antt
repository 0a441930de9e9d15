use Rattle.server_conn.proofs.Computed.{counts}
use Rattle.server_conn.proofs.examples.counts_one.Goals as goal

pub returns : goal.returns
returns c = counts
