-- The bodies before the index.
use Rattle.std.proofs.Common.{◌≡◌, take}
use Rattle.server_conn.proofs.inserting.copied.Given as goal

abbrev pub invariant-bodies : goal.invariant-bodies
invariant-bodies l = l.copies.items ≡ take l.body-index l.bodies
