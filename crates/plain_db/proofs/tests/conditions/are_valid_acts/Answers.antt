use Rattle.std.proofs.Common.{refl}
use Rattle.plain_db.proofs.ConditionLemmas.{enough-next, enough-end}
use Rattle.plain_db.proofs.tests.conditions.are_valid_acts.Goals as goal

pub acts-preserved : goal.acts-preserved
acts-preserved c =
    enough-next _ c.args.acts.now c.acts.i c.index-acts-i.result c.acts-test.true c.index-acts-i.is (c.if-not-is_valid_act.ensures refl) c.acts.invariant

pub returns : goal.returns
returns c = λ _. enough-end _ c.args.acts.now c.acts.i c.acts-test.false c.acts.invariant
