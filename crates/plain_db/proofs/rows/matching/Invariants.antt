use Rattle.std.proofs.Common.{◌≡◌, ◌++◌, drop, filter}
use Rattle.workload.specs.Selection.{passes}
use Rattle.workload.specs.Outcome.{value_at}
use Rattle.plain_db.specs.Positions.{rows_at}
use Rattle.plain_db.proofs.rows.matching.Given as goal

-- the rows that were found, and those that pass from here on, are those that pass
abbrev pub invariant-rows : goal.invariant-rows
invariant-rows l =
    rows_at l.rows l.positions.items ++ filter (passes value_at l.tests) (drop l.i l.rows) ≡ filter (passes value_at l.tests) l.rows
