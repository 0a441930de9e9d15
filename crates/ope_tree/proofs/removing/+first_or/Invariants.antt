use Rattle.ope_tree.proofs.Reaching.{reach}
use Rattle.ope_tree.proofs.removing.+first_or.Given as goal

abbrev pub decreases-first_or : goal.decreases-first_or
decreases-first_or l = reach l.link
