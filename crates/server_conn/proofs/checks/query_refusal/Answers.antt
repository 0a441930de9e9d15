use Rattle.std.proofs.Common.{sym, ap, not, ◌∙◌, ◌≡◌, ℕ, List, map, true, false}
use Rattle.server_conn.specs.declared.txn.Mark.{Mark}
use Rattle.server_conn.specs.Checks.{first_failing, checks, refusal, own, lacks_one, columns_named, are_of, constants_of}
use Rattle.server_conn.specs.Inside.{held_in, mark_of, lacks_in}
use Rattle.server_conn.proofs.Judging.{not-lacking, lacks-one, named-is, conds-are}
use Rattle.server_conn.proofs.Passing.{failed, went_on}
use Rattle.server_conn.proofs.checks.query_refusal.Goals as goal

pub returns-then-has_walk : goal.returns-then-has_walk
unfolding refusal checks first_failing
returns-then-has_walk c = sym (failed _ _ _ (sym c.if-has_walk.ensures))

pub returns-then-lacks_table : goal.returns-then-lacks_table
unfolding refusal checks first_failing
returns-then-lacks_table c = sym (went_on _ _ _ (sym c.if-has_walk.ensures) ∙ failed _ _ _ (sym c.if-lacks_table.ensures))

pub width-requires-clause-there : goal.width-requires-clause-there
width-requires-clause-there c = not-lacking c.args.txn.now c.args.asked.now.table (sym c.if-lacks_table.ensures)

pub returns-then-lacks_named : goal.returns-then-lacks_named
unfolding refusal checks first_failing
returns-then-lacks_named c =
    sym (went_on _ _ _ (sym c.if-has_walk.ensures) ∙ went_on _ _ _ (sym c.if-lacks_table.ensures) ∙ failed _ _ _ (named-is c.args.txn.now c.args.asked.now c.width.result true c.width.ensures c.if-lacks_named.ensures))

pub returns-then-not-are_of_conds : goal.returns-then-not-are_of_conds
unfolding refusal checks first_failing
returns-then-not-are_of_conds c =
    sym (went_on _ _ _ (sym c.if-has_walk.ensures) ∙ went_on _ _ _ (sym c.if-lacks_table.ensures) ∙ went_on _ _ _ (named-is c.args.txn.now c.args.asked.now c.width.result false c.width.ensures c.if-lacks_named.ensures)
    ∙ failed _ _ _ (ap not (conds-are c.args.txn.now c.args.asked.now _ _ false c.as_slice.ensures c.as_slice-2.ensures.value c.if-not-are_of_conds.ensures)))

pub returns : goal.returns
unfolding refusal checks first_failing
returns c =
    sym (went_on _ _ _ (sym c.if-has_walk.ensures) ∙ went_on _ _ _ (sym c.if-lacks_table.ensures) ∙ went_on _ _ _ (named-is c.args.txn.now c.args.asked.now c.width.result false c.width.ensures c.if-lacks_named.ensures)
    ∙ went_on _ _ _ (ap not (conds-are c.args.txn.now c.args.asked.now _ _ true c.as_slice.ensures c.as_slice-2.ensures.value c.if-not-are_of_conds.ensures)))
