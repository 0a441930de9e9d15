use Rattle.std.proofs.Common.{refl, subst}
use Rattle.workload.specs.Validity.{IsValidScript}
use Rattle.plain_db.proofs.ConditionLemmas.{enough-next, enough-end}
use Rattle.plain_db.proofs.tests.conditions.are_valid_scripts.Goals as goal

pub scripts-preserved : goal.scripts-preserved
scripts-preserved c =
    enough-next _ c.args.scripts.now c.scripts.i c.index-scripts-i.result c.scripts-test.true c.index-scripts-i.is
    (subst (IsValidScript c.args.tables.now) c.as_slice.ensures (c.if-not-is_valid_script.ensures refl)) c.scripts.invariant

pub returns : goal.returns
returns c = λ _. enough-end _ c.args.scripts.now c.scripts.i c.scripts-test.false c.scripts.invariant
