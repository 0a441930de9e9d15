use Rattle.workload.specs.Validity.{IsValidPiece}
use Rattle.plain_db.proofs.ConditionLemmas.{Enough}
use Rattle.plain_db.proofs.tests.conditions.is_valid_script.Given as goal

abbrev pub invariant-pieces : goal.invariant-pieces
invariant-pieces l = Enough (IsValidPiece l.tables) l.pieces l.i
