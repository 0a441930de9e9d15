use Rattle.std.proofs.Common.{rules}
use Rattle.plain_db.proofs.ConditionLemmas.{name-t, name-a, name-b}
use Rattle.plain_db.proofs.tests.conditions.is_name.Goals as goal

pub returns-then-eq : goal.returns-then-eq
returns-then-eq c = λ _. name-t _ (search rules)

pub returns-then-eq-2 : goal.returns-then-eq-2
returns-then-eq-2 c = λ _. name-a _ (search rules)

pub returns : goal.returns
returns c = λ h. name-b _ (search rules)
