use Rattle.txn_core.proofs.tests.stale_rebuild.Goals as goal

pub commit_row-requires : goal.commit_row-requires
commit_row-requires g c = c.in_ok-two.ensures.past

pub rebuild-requires : goal.rebuild-requires
rebuild-requires g c = c.commit_row.ensures.later _ (c.begin-2.ensures.later _ c.in_ok-one.ensures.past)
