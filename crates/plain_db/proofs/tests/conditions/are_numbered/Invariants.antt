use Rattle.plain_db.proofs.ConditionLemmas.{EnoughRows}
use Rattle.plain_db.proofs.tests.conditions.are_numbered.Given as goal

abbrev pub invariant-rows : goal.invariant-rows
invariant-rows l = EnoughRows l.rows l.first l.next l.i
