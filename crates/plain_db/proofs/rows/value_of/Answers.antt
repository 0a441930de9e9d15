use Rattle.std.proofs.Common.{◌∙◌, ap, sym}
use Rattle.std.proofs.lemmas.List.{get_or_past, get_or_read}
use Rattle.workload.specs.Outcome.{value_at}
use Rattle.plain_db.specs.Positions.{row_at, no_row}
use Rattle.plain_db.proofs.rows.value_of.Goals as goal

pub returns-then-position-rows : goal.returns-then-position-rows
unfolding row_at
returns-then-position-rows c =
    c.value_in.ensures
    ∙ ap (λ row. value_at c.args.column row) (get_or_read c.args.rows.now c.args.position c.index-rows-position.result c.if-position-rows.true c.index-rows-position.is no_row)

pub returns-else-position-rows : goal.returns-else-position-rows
unfolding row_at value_at no_row
returns-else-position-rows c =
    sym (ap (λ row. value_at c.args.column row) (get_or_past c.args.rows.now c.args.position no_row c.if-position-rows.false))
