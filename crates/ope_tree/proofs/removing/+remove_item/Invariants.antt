use Rattle.ope_tree.proofs.Reaching.{reach}
use Rattle.ope_tree.proofs.removing.+remove_item.Given as goal

abbrev pub decreases-remove_item : goal.decreases-remove_item
decreases-remove_item l = reach l.link
