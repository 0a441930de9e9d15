use Rattle.std.proofs.Common.{◌≡◌, ◌++◌, drop, filter}
use Rattle.workload.specs.Selection.{passes}
use Rattle.workload.specs.Outcome.{value_at}
use Rattle.plain_db.proofs.copying.copied_passing.Given as goal

-- the copies, and the rows that pass from here on, are the rows that pass
abbrev pub invariant-rows : goal.invariant-rows
invariant-rows l =
    l.copies.items ++ filter (passes value_at l.tests) (drop l.i l.rows) ≡ filter (passes value_at l.tests) l.rows
