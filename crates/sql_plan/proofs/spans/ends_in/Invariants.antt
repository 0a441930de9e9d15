use Rattle.std.proofs.Common.{◌≡◌, ◌≤◌, length, drop}
use Rattle.sql_plan.specs.Walks.{ends_in}
use Rattle.sql_plan.proofs.spans.ends_in.Given as goal

abbrev pub invariant-bounds : goal.invariant-bounds
invariant-bounds l = record { within : l.left ≤ length l.bounds; so_far : l.ends ≡ ends_in l.column (drop l.left l.bounds) }

abbrev pub decreases-bounds : goal.decreases-bounds
decreases-bounds l = l.left
