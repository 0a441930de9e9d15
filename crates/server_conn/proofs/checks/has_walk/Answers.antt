use Rattle.std.proofs.Common.{◌∙◌}
use Rattle.server_conn.proofs.Judging.{walk-some}
use Rattle.server_conn.proofs.checks.has_walk.Goals as goal

pub returns : goal.returns
returns c = c.is_some.ensures ∙ walk-some c.args.txn.now
