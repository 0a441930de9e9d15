use Rattle.server_conn.proofs.Refusing.{refusals_keep}
use Rattle.server_conn.proofs.laws.refusals_change_nothing.Goals as goal

pub returns : goal.returns
returns c = refusals_keep
