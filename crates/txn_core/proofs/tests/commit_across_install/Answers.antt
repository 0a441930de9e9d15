use Rattle.txn_core.proofs.tests.commit_across_install.Goals as goal

pub commit_row-requires : goal.commit_row-requires
commit_row-requires g c = c.in_ok-one.ensures.past

pub commit_row-requires-2 : goal.commit_row-requires-2
commit_row-requires-2 g c = c.in_ok-two.ensures.past

pub rebuild-requires : goal.rebuild-requires
rebuild-requires g c = c.in_ok-other.ensures.past

pub commit_row-requires-3 : goal.commit_row-requires-3
commit_row-requires-3 g c = c.rebuild.ensures.later _ (c.begin-4.ensures.later _ c.in_ok-three.ensures.past)
