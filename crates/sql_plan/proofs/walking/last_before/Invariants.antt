use Rattle.std.proofs.Common.{◌≡◌, ◌≤◌, [], drop}
use Rattle.sql_plan.specs.Walks.{within}
use Rattle.sql_plan.proofs.walking.last_before.Given as goal

abbrev pub invariant-places : goal.invariant-places
invariant-places l = record { low : l.first ≤ l.place; high : l.place ≤ l.end; after : within l.table.shelf l.bounds (drop l.place l.index.entries) ≡ [] }

abbrev pub decreases-places : goal.decreases-places
decreases-places l = l.place
