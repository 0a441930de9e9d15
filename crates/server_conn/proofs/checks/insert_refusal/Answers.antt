use Rattle.std.proofs.Common.{sym, ap, not, ◌∙◌}
use Rattle.server_conn.specs.Checks.{first_failing, checks, refusal}
use Rattle.server_conn.proofs.Judging.{not-lacking}
use Rattle.server_conn.proofs.Passing.{failed, went_on}
use Rattle.server_conn.proofs.checks.insert_refusal.Goals as goal

pub returns-then-has_walk : goal.returns-then-has_walk
unfolding refusal checks first_failing
returns-then-has_walk c = sym (failed _ _ _ (sym c.if-has_walk.ensures))

pub returns-then-lacks_table : goal.returns-then-lacks_table
unfolding refusal checks first_failing
returns-then-lacks_table c = sym (went_on _ _ _ (sym c.if-has_walk.ensures) ∙ failed _ _ _ (sym c.if-lacks_table.ensures))

pub fits_row-requires-clause-there : goal.fits_row-requires-clause-there
fits_row-requires-clause-there c = not-lacking c.args.txn.now c.args.table (sym c.if-lacks_table.ensures)

pub returns-then-not-fits_row : goal.returns-then-not-fits_row
unfolding refusal checks first_failing
returns-then-not-fits_row c = sym (went_on _ _ _ (sym c.if-has_walk.ensures) ∙ went_on _ _ _ (sym c.if-lacks_table.ensures) ∙ failed _ _ _ (ap not (sym c.if-not-fits_row.ensures)))

pub is_full-requires-clause-there : goal.is_full-requires-clause-there
is_full-requires-clause-there c = not-lacking c.args.txn.now c.args.table (sym c.if-lacks_table.ensures)

pub returns-then-is_full : goal.returns-then-is_full
unfolding refusal checks first_failing
returns-then-is_full c =
    sym (went_on _ _ _ (sym c.if-has_walk.ensures) ∙ went_on _ _ _ (sym c.if-lacks_table.ensures) ∙ went_on _ _ _ (ap not (sym c.if-not-fits_row.ensures)) ∙ failed _ _ _ (sym c.if-is_full.ensures))

pub returns : goal.returns
unfolding refusal checks first_failing
returns c =
    sym (went_on _ _ _ (sym c.if-has_walk.ensures) ∙ went_on _ _ _ (sym c.if-lacks_table.ensures) ∙ went_on _ _ _ (ap not (sym c.if-not-fits_row.ensures)) ∙ went_on _ _ _ (sym c.if-is_full.ensures))
