use Rattle.std.proofs.Common.{refl}
use Rattle.plain_db.proofs.ConditionLemmas.{enough-more, enough-end}
use Rattle.plain_db.proofs.tests.conditions.are_valid_tests.Goals as goal

pub tests-preserved : goal.tests-preserved
tests-preserved c =
    enough-more _ c.args.tests.now c.tests.i _ c.tests-test.true (c.if-not-is_valid_test.ensures refl) c.tests.invariant

pub returns : goal.returns
returns c = λ _. enough-end _ c.args.tests.now c.tests.i c.tests-test.false c.tests.invariant
