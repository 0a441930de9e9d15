use Rattle.std.proofs.Common.{refl}
use Rattle.plain_db.proofs.ConditionLemmas.{answerable}
use Rattle.plain_db.proofs.tests.conditions.is_answerable.Goals as goal

pub returns : goal.returns
returns c = λ h.
    answerable c.args.db.now c.args.act.now c.table_of_act-t.result c.as_slice-tables.result.now c.index-tables-t.result c.as_slice.result.now
    c.table_of_act-t.ensures c.as_slice-tables.ensures c.if-t-tables.false c.index-tables-t.is c.as_slice.ensures (c.are_numbered.ensures h)
    (c.if-not-is_narrow.ensures refl)
