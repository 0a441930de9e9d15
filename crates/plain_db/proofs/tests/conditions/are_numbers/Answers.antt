use Rattle.std.proofs.Common.{refl}
use Rattle.plain_db.proofs.ConditionLemmas.{enough-more, enough-end}
use Rattle.plain_db.proofs.tests.conditions.are_numbers.Goals as goal

pub values-preserved : goal.values-preserved
values-preserved c =
    enough-more _ c.args.values.now c.values.i _ c.values-test.true (c.if-not-is_number.ensures refl) c.values.invariant

pub returns : goal.returns
returns c = λ _. enough-end _ c.args.values.now c.values.i c.values-test.false c.values.invariant
