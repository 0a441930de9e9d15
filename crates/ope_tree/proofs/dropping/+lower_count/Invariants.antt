use Rattle.ope_tree.proofs.Reaching.{reach}
use Rattle.ope_tree.proofs.dropping.+lower_count.Given as goal

abbrev pub decreases-lower_count : goal.decreases-lower_count
decreases-lower_count l = reach l.link
