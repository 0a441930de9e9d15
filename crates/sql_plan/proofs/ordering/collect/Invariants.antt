use Rattle.std.proofs.Common.{◌≡◌, take}
use Rattle.sql_plan.specs.Walks.{keyed_rows, within}
use Rattle.sql_plan.proofs.ordering.collect.Given as goal

abbrev pub invariant-places : goal.invariant-places
invariant-places l = l.found.items ≡ keyed_rows l.table.shelf l.query.order (within l.table.shelf l.query.bounds (take l.place l.index.entries))
