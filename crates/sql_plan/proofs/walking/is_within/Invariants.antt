use Rattle.std.proofs.Common.{◌≡◌, drop}
use Rattle.sql_plan.specs.Walks.{is_within}
use Rattle.sql_plan.proofs.walking.is_within.Given as goal

abbrev pub invariant-bounds : goal.invariant-bounds
invariant-bounds l = is_within l.table.shelf l.bounds l.row ≡ is_within l.table.shelf (drop l.bound-index l.bounds) l.row
