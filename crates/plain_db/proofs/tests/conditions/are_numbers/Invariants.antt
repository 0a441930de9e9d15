use Rattle.workload.specs.Validity.{IsNumber}
use Rattle.plain_db.proofs.ConditionLemmas.{Enough}
use Rattle.plain_db.proofs.tests.conditions.are_numbers.Given as goal

abbrev pub invariant-values : goal.invariant-values
invariant-values l = Enough IsNumber l.values l.i
