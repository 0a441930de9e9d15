use Rattle.std.proofs.Common.{◌≡◌, replicate}
use Rattle.workload.specs.PlainDatabase.{empty_table}
use Rattle.plain_db.proofs.running.empty_tables.Given as goal

abbrev pub invariant-tables : goal.invariant-tables
invariant-tables l = l.tables.items ≡ replicate l._i empty_table
