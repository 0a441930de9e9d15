use Rattle.ope_tree.proofs.Reaching.{reach}
use Rattle.ope_tree.proofs.settling.+part_below.Given as goal

abbrev pub decreases-part_below : goal.decreases-part_below
decreases-part_below l = reach l.part.link
