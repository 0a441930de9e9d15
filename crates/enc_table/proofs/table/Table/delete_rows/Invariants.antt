-- The rows before the index are deleted.
use Rattle.enc_table.proofs.TableDeleting.{DeletedTo}
use Rattle.enc_table.proofs.table.Table.delete_rows.Given as goal

abbrev pub invariant-rows : goal.invariant-rows
invariant-rows l = DeletedTo l.fn.self l.self l.rows l.row-index l.changes.items
