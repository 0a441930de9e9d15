use Rattle.std.proofs.lemmas.Bool.{leb-true}
use Rattle.plain_db.proofs.ConditionLemmas.{rows-more, rows-end}
use Rattle.plain_db.proofs.tests.conditions.are_numbered.Goals as goal

pub rows-preserved : goal.rows-preserved
rows-preserved c =
    rows-more c.args.rows.now c.rows.first c.args.next c.rows.i c.index-rows-i.result c.rows-test.true c.if-number-first.false c.rows.invariant

pub returns : goal.returns
returns c = λ h. rows-end c.args.rows.now c.rows.first c.args.next c.rows.i c.rows-test.false (leb-true _ _ h) c.rows.invariant
