use Rattle.std.proofs.Common.{◌∙◌}
use Rattle.sql_plan.proofs.RowCodes.{facts-of}
use Rattle.sql_plan.proofs.SpanLemmas.{count-one-found}
use Rattle.sql_plan.proofs.plans.count_one.Goals as goal

pub returns-in-Some : goal.returns-in-Some
returns-in-Some c =
    c.count.ensures
    ∙ count-one-found c.args.table.now.shelf (facts-of c.args.table.now c.index.ensures.table) c.args.bound.now c.requires c.in-Some.index.now c.in-Some.ensures.entries
