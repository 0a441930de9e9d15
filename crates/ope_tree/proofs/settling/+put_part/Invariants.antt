use Rattle.ope_tree.proofs.Reaching.{reach}
use Rattle.ope_tree.proofs.settling.+put_part.Given as goal

abbrev pub decreases-put_part : goal.decreases-put_part
decreases-put_part l = reach l.link
