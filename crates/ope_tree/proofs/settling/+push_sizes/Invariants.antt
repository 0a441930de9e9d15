use Rattle.ope_tree.proofs.Reaching.{reach}
use Rattle.ope_tree.proofs.settling.+push_sizes.Given as goal

abbrev pub decreases-push_sizes : goal.decreases-push_sizes
decreases-push_sizes l = reach l.link
