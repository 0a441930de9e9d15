-- The bodies of the rows before the index.
use Rattle.std.proofs.Common.{◌≡◌, ◌++◌, take, flat_map}
use Rattle.server_conn.specs.Asking.{bodies_by}
use Rattle.server_conn.proofs.selecting.bodies_of.Given as goal

abbrev pub invariant-rows : goal.invariant-rows
invariant-rows l = l.bodies.items ≡ flat_map (bodies_by l.table.shelf l.columns) (take l.row-index l.rows)
