use Rattle.ope_tree.proofs.Reaching.{reach}
use Rattle.ope_tree.proofs.moving.+first_moved.Given as goal

abbrev pub decreases-first_moved : goal.decreases-first_moved
decreases-first_moved l = reach l.left
