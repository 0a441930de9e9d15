use Rattle.server_conn.proofs.Refusing.{full_ends}
use Rattle.server_conn.proofs.laws.full_ends_transaction.Goals as goal

pub returns : goal.returns
returns c = full_ends
