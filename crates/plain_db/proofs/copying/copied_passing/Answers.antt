use Rattle.std.proofs.Common.{◌∙◌, ap, ◌++◌, filter}
use Rattle.workload.specs.Selection.{passes}
use Rattle.workload.specs.Outcome.{value_at}
use Rattle.plain_db.proofs.RowLemmas.{copied_more, copied_all}
use Rattle.plain_db.proofs.copying.copied_passing.Goals as goal

pub rows-init : goal.rows-init
rows-init c = ap (λ l. l ++ filter (passes value_at c.args.tests.now) c.args.rows.now) c.new-copies.ensures.items

pub rows-preserved : goal.rows-preserved
rows-preserved c =
    copied_more c.args.rows.now (passes value_at c.args.tests.now) c.rows.copies.items c.push_copy_if.new.copies.items c.rows.i c.index-rows-i.result c.passes_all.result
    c.rows-test.true c.rows.invariant c.index-rows-i.is c.passes_all.ensures c.in_ok-push_copy_if.ensures

pub returns : goal.returns
returns c =
    c.from_vec.ensures
    ∙ copied_all c.args.rows.now (passes value_at c.args.tests.now) c.rows.copies.items c.rows.i c.rows-test.false c.rows.invariant
