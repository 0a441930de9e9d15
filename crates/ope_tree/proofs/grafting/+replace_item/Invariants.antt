use Rattle.ope_tree.proofs.Reaching.{reach}
use Rattle.ope_tree.proofs.grafting.+replace_item.Given as goal

abbrev pub decreases-replace_item : goal.decreases-replace_item
decreases-replace_item l = reach l.link
