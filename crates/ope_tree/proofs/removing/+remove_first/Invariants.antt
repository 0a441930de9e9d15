use Rattle.ope_tree.proofs.Reaching.{reach}
use Rattle.ope_tree.proofs.removing.+remove_first.Given as goal

abbrev pub decreases-remove_first : goal.decreases-remove_first
decreases-remove_first l = reach l.left
