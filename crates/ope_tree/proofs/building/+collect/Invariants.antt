use Rattle.ope_tree.proofs.Reaching.{reach}
use Rattle.ope_tree.proofs.building.+collect.Given as goal

abbrev pub decreases-collect : goal.decreases-collect
decreases-collect l = reach l.link
