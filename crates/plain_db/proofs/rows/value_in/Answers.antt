use Rattle.std.proofs.Common.{ap, sym, get_or}
use Rattle.std.proofs.lemmas.List.{get_or_past}
use Rattle.workload.specs.Outcome.{value_at}
use Rattle.plain_db.proofs.rows.value_in.Goals as goal

pub returns-then-index-values : goal.returns-then-index-values
unfolding value_at
returns-then-index-values c = ap (λ l. get_or l c.args.column.0 0) c.as_slice-values.ensures

pub returns-else-index-values : goal.returns-else-index-values
unfolding value_at
returns-else-index-values c =
    sym (get_or_past c.args.row.now.values c.args.column.0 0 (rw c.as_slice-values.ensures at c.if-index-values.false))
