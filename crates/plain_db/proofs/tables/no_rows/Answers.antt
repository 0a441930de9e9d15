use Rattle.std.proofs.Common.{ap}
use Rattle.workload.specs.declared.plain.PlainTable.{PlainTable}
use Rattle.workload.specs.PlainDatabase.{empty_table}
use Rattle.plain_db.proofs.tables.no_rows.Goals as goal

pub returns : goal.returns
unfolding empty_table
returns c = ap (λ rows. let t : PlainTable = record { rows = rows; next = 1 } in t) c.new.ensures
