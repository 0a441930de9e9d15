use Rattle.ope_tree.proofs.Reaching.{reach}
use Rattle.ope_tree.proofs.moving.+removal_moved.Given as goal

abbrev pub decreases-removal_moved : goal.decreases-removal_moved
decreases-removal_moved l = reach l.link
