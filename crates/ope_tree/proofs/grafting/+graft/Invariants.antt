use Rattle.ope_tree.proofs.Reaching.{reach}
use Rattle.ope_tree.proofs.grafting.+graft.Given as goal

abbrev pub decreases-graft : goal.decreases-graft
decreases-graft l = reach l.link
