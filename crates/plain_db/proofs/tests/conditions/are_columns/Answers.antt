use Rattle.std.proofs.Common.{refl}
use Rattle.plain_db.proofs.ConditionLemmas.{enough-more, enough-end}
use Rattle.plain_db.proofs.tests.conditions.are_columns.Goals as goal

pub columns-preserved : goal.columns-preserved
columns-preserved c =
    enough-more _ c.args.columns.now c.columns.i _ c.columns-test.true (c.if-not-is_column.ensures refl) c.columns.invariant

pub returns : goal.returns
returns c = λ _. enough-end _ c.args.columns.now c.columns.i c.columns-test.false c.columns.invariant
