use Rattle.std.proofs.Common.{length}
use Rattle.walk_proto.proofs.faults.+wrong_op.Given as goal

abbrev pub decreases-wrong_op : goal.decreases-wrong_op
decreases-wrong_op l = length l.conds.now
