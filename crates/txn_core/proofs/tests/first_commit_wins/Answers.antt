use Rattle.txn_core.proofs.tests.first_commit_wins.Goals as goal

pub commit_row-requires : goal.commit_row-requires
commit_row-requires g c = c.begin-2.ensures.later _ c.in_ok-one.ensures.past

pub commit_row-requires-2 : goal.commit_row-requires-2
commit_row-requires-2 g c = c.commit_row.ensures.later _ c.in_ok-two.ensures.past
