-- The bodies of the columns before the index.
use Rattle.std.proofs.Common.{◌≡◌, ◌++◌, take}
use Rattle.server_conn.specs.Asking.{bodies_by}
use Rattle.server_conn.proofs.selecting.push_row.Given as goal

abbrev pub invariant-columns : goal.invariant-columns
invariant-columns l = l.bodies.items ≡ l.fn.bodies.items ++ bodies_by l.table.shelf (take l.column-index l.columns) l.row
