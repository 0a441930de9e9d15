use Rattle.workload.specs.Validity.{IsColumn}
use Rattle.plain_db.proofs.ConditionLemmas.{Enough}
use Rattle.plain_db.proofs.tests.conditions.are_columns.Given as goal

abbrev pub invariant-columns : goal.invariant-columns
invariant-columns l = Enough (IsColumn l.tables l.t) l.columns l.i
