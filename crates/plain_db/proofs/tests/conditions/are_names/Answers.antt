use Rattle.std.proofs.Common.{refl}
use Rattle.plain_db.proofs.ConditionLemmas.{enough-next, enough-end}
use Rattle.plain_db.proofs.tests.conditions.are_names.Goals as goal

pub names-preserved : goal.names-preserved
names-preserved c =
    enough-next _ c.args.names.now c.names.i c.index-names-i.result c.names-test.true c.index-names-i.is (c.if-not-is_name.ensures refl)
    c.names.invariant

pub returns : goal.returns
returns c = λ _. enough-end _ c.args.names.now c.names.i c.names-test.false c.names.invariant
