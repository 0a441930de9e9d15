use Rattle.std.proofs.Common.{◌≡◌, drop}
use Rattle.workload.specs.Selection.{passes}
use Rattle.workload.specs.Outcome.{value_at}
use Rattle.plain_db.proofs.rows.passes_all.Given as goal

-- the tests from here on decide
abbrev pub invariant-tests : goal.invariant-tests
invariant-tests l = passes value_at (drop l.i l.tests) l.row ≡ passes value_at l.tests l.row
