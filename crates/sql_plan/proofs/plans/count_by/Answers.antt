use Rattle.std.proofs.Common.{◌∙◌}
use Rattle.sql_plan.proofs.RowCodes.{facts-of}
use Rattle.sql_plan.proofs.Answering.{count-of}
use Rattle.sql_plan.proofs.plans.count_by.Goals as goal

pub returns-in-Some : goal.returns-in-Some
returns-in-Some c =
    c.count_within.ensures
    ∙ count-of c.args.table.now.shelf (facts-of c.args.table.now c.index.ensures.table) c.args.column c.requires.there c.in-Some.index.now c.in-Some.ensures.entries c.args.bounds.now c.requires.bounds
