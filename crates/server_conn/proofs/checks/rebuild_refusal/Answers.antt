use Rattle.std.proofs.Common.{sym, ap, not, ◌∙◌}
use Rattle.server_conn.specs.Checks.{first_failing, checks, refusal}
use Rattle.server_conn.proofs.Judging.{not-lacking}
use Rattle.server_conn.proofs.Passing.{failed, went_on}
use Rattle.server_conn.proofs.checks.rebuild_refusal.Goals as goal

pub returns-then-has_walk : goal.returns-then-has_walk
unfolding refusal checks first_failing
returns-then-has_walk c = sym (failed _ _ _ (sym c.if-has_walk.ensures))

pub returns-then-lacks_table : goal.returns-then-lacks_table
unfolding refusal checks first_failing
returns-then-lacks_table c = sym (went_on _ _ _ (sym c.if-has_walk.ensures) ∙ failed _ _ _ (sym c.if-lacks_table.ensures))

pub lacks_column-requires-clause-there : goal.lacks_column-requires-clause-there
lacks_column-requires-clause-there c = not-lacking c.args.txn.now c.args.table (sym c.if-lacks_table.ensures)

pub returns-then-lacks_column : goal.returns-then-lacks_column
unfolding refusal checks first_failing
returns-then-lacks_column c = sym (went_on _ _ _ (sym c.if-has_walk.ensures) ∙ went_on _ _ _ (sym c.if-lacks_table.ensures) ∙ failed _ _ _ (sym c.if-lacks_column.ensures))

pub returns-then-not-is_fresh : goal.returns-then-not-is_fresh
unfolding refusal checks first_failing
returns-then-not-is_fresh c =
    sym (went_on _ _ _ (sym c.if-has_walk.ensures) ∙ went_on _ _ _ (sym c.if-lacks_table.ensures) ∙ went_on _ _ _ (sym c.if-lacks_column.ensures) ∙ failed _ _ _ (ap not (sym c.if-not-is_fresh.ensures)))

pub returns : goal.returns
unfolding refusal checks first_failing
returns c =
    sym (went_on _ _ _ (sym c.if-has_walk.ensures) ∙ went_on _ _ _ (sym c.if-lacks_table.ensures) ∙ went_on _ _ _ (sym c.if-lacks_column.ensures) ∙ went_on _ _ _ (ap not (sym c.if-not-is_fresh.ensures)))
