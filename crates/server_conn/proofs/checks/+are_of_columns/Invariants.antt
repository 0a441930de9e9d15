-- What is left is shorter.
use Rattle.std.proofs.Common.{length}
use Rattle.server_conn.proofs.checks.+are_of_columns.Given as goal

abbrev pub decreases-are_of_columns : goal.decreases-are_of_columns
decreases-are_of_columns l = length l.marks.now
