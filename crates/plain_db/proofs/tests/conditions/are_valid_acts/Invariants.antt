use Rattle.workload.specs.Validity.{IsValidAct}
use Rattle.plain_db.proofs.ConditionLemmas.{Enough}
use Rattle.plain_db.proofs.tests.conditions.are_valid_acts.Given as goal

abbrev pub invariant-acts : goal.invariant-acts
invariant-acts l = Enough (IsValidAct l.tables) l.acts l.i
