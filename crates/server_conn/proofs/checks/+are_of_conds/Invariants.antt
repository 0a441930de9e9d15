-- What is left is shorter.
use Rattle.std.proofs.Common.{length}
use Rattle.server_conn.proofs.checks.+are_of_conds.Given as goal

abbrev pub decreases-are_of_conds : goal.decreases-are_of_conds
decreases-are_of_conds l = length l.conds.now
