-- Each place is as it was, and there are no more than so many.
use Rattle.std.proofs.Common.{◌≤◌, ◌-◌, length}
use Rattle.server_conn.specs.Inside.{IsSameOwn}
use Rattle.server_conn.proofs.txn.make_room.Given as goal

abbrev pub invariant-tables : goal.invariant-tables
invariant-tables l = (length l.own.items ≤ l.tables) × IsSameOwn l.fn.own.items l.own.items

abbrev pub decreases-tables : goal.decreases-tables
decreases-tables l = l.tables - length l.own.items
