-- What is left is shorter.
use Rattle.std.proofs.Common.{length}
use Rattle.server_conn.proofs.selecting.+push_bounds.Given as goal

abbrev pub decreases-push_bounds : goal.decreases-push_bounds
decreases-push_bounds l = length l.conds.now
