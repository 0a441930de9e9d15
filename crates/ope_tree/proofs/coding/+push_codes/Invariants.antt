use Rattle.ope_tree.proofs.Reaching.{reach}
use Rattle.ope_tree.proofs.coding.+push_codes.Given as goal

abbrev pub decreases-push_codes : goal.decreases-push_codes
decreases-push_codes l = reach l.link
