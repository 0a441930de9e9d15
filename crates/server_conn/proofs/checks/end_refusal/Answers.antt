use Rattle.std.proofs.Common.{sym}
use Rattle.server_conn.specs.Checks.{first_failing, checks, refusal}
use Rattle.server_conn.proofs.Passing.{failed, went_on}
use Rattle.server_conn.proofs.checks.end_refusal.Goals as goal

pub returns-then-has_walk : goal.returns-then-has_walk
unfolding refusal checks first_failing
returns-then-has_walk c = sym (failed _ _ _ (sym c.if-has_walk.ensures))

pub returns : goal.returns
unfolding refusal checks first_failing
returns c = sym (went_on _ _ _ (sym c.if-has_walk.ensures))
