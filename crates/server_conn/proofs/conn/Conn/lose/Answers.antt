use Rattle.server_conn.proofs.Calls.{conn-lost, lost-is}
use Rattle.server_conn.proofs.conn.Conn.lose.Goals as goal

pub invariant_of-self : goal.invariant_of-self
invariant_of-self c = conn-lost

pub returns : goal.returns
returns c = lost-is
