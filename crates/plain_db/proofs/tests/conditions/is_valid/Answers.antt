use Rattle.std.proofs.Common.{refl}
use Rattle.plain_db.proofs.ConditionLemmas.{one-valid}
use Rattle.plain_db.proofs.tests.conditions.is_valid.Goals as goal

pub returns : goal.returns
returns c = λ h.
    one-valid c.args.w.now c.as_slice-tables.result.now c.as_slice-scripts.result.now c.index-tables-0.result c.as_slice-tables.ensures
    c.as_slice-scripts.ensures c.if-tables-ne1.false c.if-scripts-gt64.false c.index-tables-0.is (c.if-not-is_valid_decl.ensures refl)
    (c.are_valid_scripts.ensures h)
