use Rattle.workload.specs.Validity.{IsValidTest}
use Rattle.plain_db.proofs.ConditionLemmas.{Enough}
use Rattle.plain_db.proofs.tests.conditions.are_valid_tests.Given as goal

abbrev pub invariant-tests : goal.invariant-tests
invariant-tests l = Enough (IsValidTest l.tables l.t) l.tests l.i
