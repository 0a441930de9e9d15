use Rattle.ope_tree.proofs.Reaching.{reach}
use Rattle.ope_tree.proofs.copying.+copy_into.Given as goal

abbrev pub decreases-copy_into : goal.decreases-copy_into
decreases-copy_into l = reach l.link
