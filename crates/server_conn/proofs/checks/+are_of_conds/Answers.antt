use Rattle.std.proofs.Common.{◌∙◌, List, ap, sym, drop}
use Rattle.std.proofs.lemmas.List.{take_rest}
use Rattle.server_conn.specs.declared.txn.Mark.{Mark}
use Rattle.server_conn.proofs.Ordering.{conds-none, conds-not, conds-once, conds-half, conds-twice, drop-twice}
use Rattle.server_conn.proofs.checks.+are_of_conds.Goals as goal

pub returns-then-not-begins_with : goal.returns-then-not-begins_with
returns-then-not-begins_with t c = conds-not c.args.table.0 c.args.conds.now c.args.marks.now _ _ c.begins_with.result c.in-len1-up.len_at_least c.if-not-begins_with.true c.begins_with.ensures.first

pub returns-then-cond-ne5 : goal.returns-then-cond-ne5
returns-then-cond-ne5 t c =
    conds-once c.args.table.0 c.args.conds.now _ c.args.marks.now _ _ _ c.begins_with.result c.are_of_conds.result c.in-len1-up.len_at_least c.if-cond-ne5.true c.if-not-begins_with.false c.begins_with.ensures.first (take_rest c.args.conds.now 1) (take_rest c.args.marks.now 1) c.are_of_conds.ensures

pub returns-then-not-begins_with-2 : goal.returns-then-not-begins_with-2
returns-then-not-begins_with-2 t c =
    conds-half c.args.table.0 c.args.conds.now c.args.marks.now _ _ _ _ c.begins_with.result c.begins_with-in-len1-up.result c.in-len1-up.len_at_least c.if-cond-ne5.false c.if-not-begins_with.false c.if-not-begins_with-2.true c.begins_with.ensures.first (take_rest c.args.marks.now 1) c.begins_with-in-len1-up.ensures.first

pub returns-in-empty : goal.returns-in-empty
returns-in-empty t c = c.is_empty.ensures ∙ conds-none c.args.table.0 c.args.conds.now c.args.marks.now c.in-empty.len_below

pub returns-else-not-begins_with-2 : goal.returns-else-not-begins_with-2
returns-else-not-begins_with-2 t c =
    conds-twice c.args.table.0 c.args.conds.now _ c.args.marks.now _ _ _ _ _ c.begins_with.result c.begins_with-in-len1-up.result c.are_of_conds-in-len1-up.result c.in-len1-up.len_at_least c.if-cond-ne5.false c.if-not-begins_with.false c.if-not-begins_with-2.false c.begins_with.ensures.first (take_rest c.args.marks.now 1) c.begins_with-in-len1-up.ensures.first
    (take_rest c.args.conds.now 1) (take_rest c.args.marks.now 2 ∙ sym (drop-twice c.args.marks.now) ∙ sym (ap (λ (ms : List Mark). drop 1 ms) (take_rest c.args.marks.now 1))) c.are_of_conds-in-len1-up.ensures
