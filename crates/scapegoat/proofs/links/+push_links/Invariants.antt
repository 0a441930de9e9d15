use Rattle.scapegoat.proofs.links.+push_links.Given as goal

abbrev pub decreases-push_links : goal.decreases-push_links
decreases-push_links l = l.count
