use Rattle.std.proofs.Common.{length}
use Rattle.workload_file.proofs.verbs.+tests_after.Given as goal

abbrev pub decreases-tests_after : goal.decreases-tests_after
decreases-tests_after l = length l.conds.now
