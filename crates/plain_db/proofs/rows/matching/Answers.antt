use Rattle.std.proofs.Common.{◌∙◌, ap, ◌++◌, filter}
use Rattle.std.proofs.lemmas.List.{get_or_read}
use Rattle.workload.specs.Selection.{passes}
use Rattle.workload.specs.Outcome.{value_at}
use Rattle.plain_db.specs.Positions.{no_row, row_at, rows_at}
use Rattle.plain_db.proofs.RowLemmas.{found_more}
use Rattle.plain_db.proofs.rows.matching.Goals as goal

pub rows-init : goal.rows-init
unfolding rows_at
rows-init c = ap (λ l. rows_at c.args.rows.now l ++ filter (passes value_at c.args.tests.now) c.args.rows.now) c.new-positions.ensures.items

pub rows-preserved : goal.rows-preserved
unfolding row_at
rows-preserved c =
    found_more c.args.rows.now (passes value_at c.args.tests.now) c.rows.positions.items c.push_if.new.positions.items c.rows.i c.passes_all.result
    c.rows-test.true c.rows.invariant
    (c.passes_all.ensures ∙ ap (λ row. passes value_at c.args.tests.now row) (get_or_read c.args.rows.now c.rows.i c.index-rows-i.result c.rows-test.true c.index-rows-i.is no_row))
    c.in_ok-push_if.ensures
