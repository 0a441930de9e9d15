use Rattle.std.proofs.Common.{◌≡◌, ◌∙◌, ap, List}
use Rattle.column_index.specs.declared.entry.Entry.{Entry}
use Rattle.column_index.specs.Entries.{sorted}
use Rattle.workload.specs.Selection.{first_of}
use Rattle.sql_plan.specs.Walks.{rows_of}
use Rattle.sql_plan.proofs.RowCodes.{facts-of}
use Rattle.sql_plan.proofs.Answering.{found-of}
use Rattle.sql_plan.proofs.ordering.rows_by.Goals as goal

pub returns : goal.returns
returns c =
    c.in_ok-rows.ensures
    ∙ ap (λ (es : List Entry). first_of c.args.query.now.limit (rows_of es)) (c.deref.ensures.value ∙ c.in_ok-ordered.ensures ∙ ap sorted c.in_ok-found.ensures)
    ∙ found-of c.args.table.now.shelf (facts-of c.args.table.now c.index.ensures.table) c.args.column c.requires.there c.in-Some.index.now c.in-Some.ensures.entries c.args.query.now c.requires.bounds c.requires.order
