use Rattle.std.proofs.Common.{length}
use Rattle.ope_tree.proofs.plain_tests.+balanced.Given as goal

abbrev pub decreases-balanced : goal.decreases-balanced
decreases-balanced l = length l.counts.now
