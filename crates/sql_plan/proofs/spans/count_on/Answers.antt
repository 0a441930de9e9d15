use Rattle.std.proofs.Common.{◌∙◌}
use Rattle.sql_plan.proofs.RowCodes.{facts-of}
use Rattle.sql_plan.proofs.SpanLemmas.{count-on-found}
use Rattle.sql_plan.proofs.spans.count_on.Goals as goal

pub returns-in-Some : goal.returns-in-Some
returns-in-Some c =
    c.count.ensures
    ∙ count-on-found c.args.table.now.shelf (facts-of c.args.table.now c.rows-rows.ensures.table) c.args.column c.requires.there c.args.bounds.now c.requires.on c.in-Some.index.now c.in-Some.ensures.entries c.ends_in-lo.result c.ends_in-lo.ensures
