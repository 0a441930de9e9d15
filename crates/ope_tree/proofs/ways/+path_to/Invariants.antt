use Rattle.ope_tree.proofs.Reaching.{reach}
use Rattle.ope_tree.proofs.ways.+path_to.Given as goal

abbrev pub decreases-path_to : goal.decreases-path_to
decreases-path_to l = reach l.link
