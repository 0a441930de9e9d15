-- What is left is shorter.
use Rattle.std.proofs.Common.{length}
use Rattle.server_conn.proofs.checks.+lacks_listed.Given as goal

abbrev pub decreases-lacks_listed : goal.decreases-lacks_listed
decreases-lacks_listed l = length l.columns.now
