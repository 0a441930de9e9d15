use Rattle.std.proofs.Common.{◌≡◌, ◌∙◌, sym}
use Rattle.sql_plan.proofs.RowCodes.{facts-of}
use Rattle.sql_plan.proofs.SpanLemmas.{span-from}
use Rattle.sql_plan.proofs.spans.span.Goals as goal

pub returns : goal.returns
returns c =
    span-from c.args.table.now.shelf (facts-of c.args.table.now c.rows-rows.ensures.table) c.args.column c.requires.there c.args.bounds.now c.args.index.now c.requires.own
    c.ends_in-lo.result c.ends_in-lo.ensures c.range.result.0 c.range.result.1 c.range.ensures.parts
