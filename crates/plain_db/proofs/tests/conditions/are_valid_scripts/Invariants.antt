use Rattle.workload.specs.Validity.{IsValidScript}
use Rattle.plain_db.proofs.ConditionLemmas.{Enough}
use Rattle.plain_db.proofs.tests.conditions.are_valid_scripts.Given as goal

abbrev pub invariant-scripts : goal.invariant-scripts
invariant-scripts l = Enough (IsValidScript l.tables) l.scripts l.i
