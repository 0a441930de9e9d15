use Rattle.std.proofs.Common.{◌≡◌, ap, ◌+◌, suc, ◌++◌, ◌∷◌, [], arith}
use Rattle.workload.specs.declared.plain.PlainTable.{PlainTable}
use Rattle.workload.specs.PlainDatabase.{with_row}
use Rattle.plain_db.proofs.TableLemmas.{room-next}
use Rattle.plain_db.proofs.tables.push_row.Goals as goal

pub overflow_add-table : goal.overflow_add-table
overflow_add-table c = omega (arith, room-next c.args.table.now c.requires)

pub returns-in-Ok-clause-ok : goal.returns-in-Ok-clause-ok
unfolding with_row
returns-in-Ok-clause-ok c =
    let e : c.args.table.now.next + 1 ≡ suc c.args.table.now.next = omega arith in
    rw c.in-Ok.ensures.ok (
    ap (λ n.
    let t : PlainTable = record { rows = c.args.table.now.rows ++ record { number = c.args.table.now.next; values = c.args.values } ∷ []; next = n } in
    t) e)
