use Rattle.sql_text.specs.declared.Name.{Name}
use Rattle.sql_text.specs.Words.{IsName}
use Rattle.plain_db.proofs.ConditionLemmas.{Enough}
use Rattle.plain_db.proofs.tests.conditions.are_names.Given as goal

abbrev pub invariant-names : goal.invariant-names
invariant-names l = Enough (λ (name : Name). IsName name.bytes) l.names l.i
