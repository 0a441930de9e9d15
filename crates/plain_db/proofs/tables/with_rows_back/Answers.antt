use Rattle.std.proofs.Common.{◌≡◌, ◌∙◌, ap, ◌++◌, rules}
use Rattle.workload.specs.declared.plain.PlainTable.{PlainTable}
use Rattle.workload.specs.Selection.{ordered}
use Rattle.workload.proofs.StableSort.{ordered-from_sort_by}
use Rattle.plain_db.specs.TakingBack.{by_number, with_rows}
use Rattle.plain_db.proofs.TakingBackLemmas.{number-order}
use Rattle.plain_db.proofs.tables.with_rows_back.Goals as goal

pub returns : goal.returns
unfolding with_rows
returns c =
    ap (λ rows. let t : PlainTable = record { rows = rows; next = c.args.table.next } in t) (
    c.from_vec.ensures
    ∙ ordered-from_sort_by by_number number-order c.append.new.self.items c.sort_by.new.self.items
    c.in_ok-sort_by.ensures.sorted c.sort_by.ensures.stable (λ a r next called. search rules)
    ∙ ap (λ l. ordered by_number l) (
    c.in_ok-append.ensures.items
    ∙ ap (λ l. l ++ c.into_vec-back.result.items) c.into_vec-rows.ensures
    ∙ ap (λ l. c.args.table.rows ++ l) c.into_vec-back.ensures))
