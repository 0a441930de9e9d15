-- What is left is shorter.
use Rattle.std.proofs.Common.{length}
use Rattle.server_conn.proofs.checks.+lacks_cond.Given as goal

abbrev pub decreases-lacks_cond : goal.decreases-lacks_cond
decreases-lacks_cond l = length l.conds.now
