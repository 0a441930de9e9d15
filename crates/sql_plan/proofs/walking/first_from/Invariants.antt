use Rattle.std.proofs.Common.{◌≡◌, drop}
use Rattle.sql_plan.specs.Walks.{within}
use Rattle.sql_plan.proofs.walking.first_from.Given as goal

abbrev pub invariant-places : goal.invariant-places
invariant-places l = within l.table.shelf l.bounds (drop l.fn.first l.index.entries) ≡ within l.table.shelf l.bounds (drop l.place l.index.entries)
