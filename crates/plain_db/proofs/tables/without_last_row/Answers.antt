use Rattle.std.proofs.Common.{◌≡◌, ◌∙◌, ap, ◌-◌, take, length, sym}
use Rattle.workload.specs.declared.plain.PlainTable.{PlainTable}
use Rattle.plain_db.specs.TakingBack.{without_last}
use Rattle.plain_db.proofs.tables.without_last_row.Goals as goal

pub returns : goal.returns
unfolding without_last
returns c =
    ap (λ rows. let t : PlainTable = record { rows = rows; next = c.saturating_sub.result } in t) (
    c.from_vec.ensures
    ∙ c.pop.ensures.rest
    ∙ ap (λ n. take (n - 1) c.into_vec-rows.result.items) c.into_vec-rows.result.ok.0
    ∙ ap (λ rows. take (length rows - 1) rows) c.into_vec-rows.ensures)
    ∙ ap (λ n. let t : PlainTable = record { rows = take (length c.args.table.rows - 1) c.args.table.rows; next = n } in t) c.saturating_sub.ensures
