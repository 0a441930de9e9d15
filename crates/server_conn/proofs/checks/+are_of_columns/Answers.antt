use Rattle.std.proofs.Common.{sym}
use Rattle.std.proofs.lemmas.List.{take_rest}
use Rattle.server_conn.proofs.Ordering.{row-none, row-full, row-other, row-next}
use Rattle.server_conn.proofs.checks.+are_of_columns.Goals as goal

pub returns-then-from-width : goal.returns-then-from-width
returns-then-from-width t c = row-full c.args.table.0 c.args.from c.args.width c.args.marks.now c.in-len1-up.len_at_least c.if-from-width.true

pub returns-then-not-is_of : goal.returns-then-not-is_of
returns-then-not-is_of t c = row-other c.args.table.0 c.args.from c.args.width c.args.marks.now _ c.in-len1-up.len_at_least c.requires c.if-from-width.false (sym c.if-not-is_of.ensures)

pub returns-in-empty : goal.returns-in-empty
returns-in-empty t c = row-none c.args.table.0 c.args.from c.args.width c.args.marks.now c.in-empty.len_below c.requires

pub returns-else-not-is_of : goal.returns-else-not-is_of
returns-else-not-is_of t c =
    row-next c.args.table.0 c.args.from c.args.width c.args.marks.now _ _ c.are_of_columns.result c.in-len1-up.len_at_least c.requires c.if-from-width.false (sym c.if-not-is_of.ensures) (take_rest c.args.marks.now 1) c.are_of_columns.ensures
