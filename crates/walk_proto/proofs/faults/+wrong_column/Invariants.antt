use Rattle.std.proofs.Common.{length}
use Rattle.walk_proto.proofs.faults.+wrong_column.Given as goal

abbrev pub decreases-wrong_column : goal.decreases-wrong_column
decreases-wrong_column l = length l.columns.now
