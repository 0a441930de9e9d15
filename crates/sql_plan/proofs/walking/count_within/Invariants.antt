use Rattle.std.proofs.Common.{◌≡◌, ◌≤◌, length, take}
use Rattle.sql_plan.specs.Walks.{within}
use Rattle.sql_plan.proofs.walking.count_within.Given as goal

abbrev pub invariant-places : goal.invariant-places
invariant-places l = record { few : l.count ≤ l.place; so_far : l.count ≡ length (within l.table.shelf l.bounds (take l.place l.index.entries)) }
