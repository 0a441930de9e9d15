use Rattle.ope_tree.proofs.Reaching.{reach}
use Rattle.ope_tree.proofs.reading.+entry_at.Given as goal

abbrev pub decreases-entry_at : goal.decreases-entry_at
decreases-entry_at l = reach l.link
