use Rattle.server_conn.proofs.Computed.{fills}
use Rattle.server_conn.proofs.examples.full_table.Goals as goal

pub returns : goal.returns
returns c = fills
