use Rattle.std.proofs.Common.{length}
use Rattle.workload_file.proofs.verbs.+columns_after.Given as goal

abbrev pub decreases-columns_after : goal.decreases-columns_after
decreases-columns_after l = length l.names.now
