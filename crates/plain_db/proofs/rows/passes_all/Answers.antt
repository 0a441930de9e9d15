use Rattle.plain_db.proofs.RowLemmas.{passes_not, passes_on, passes_end}
use Rattle.plain_db.proofs.rows.passes_all.Goals as goal

pub returns-then-not-meets_test : goal.returns-then-not-meets_test
returns-then-not-meets_test c =
    passes_not c.args.tests.now c.args.row.now c.tests.i _ c.value_in.result c.tests-test.true c.tests.invariant c.value_in.ensures c.if-not-meets_test.ensures

pub tests-preserved : goal.tests-preserved
tests-preserved c =
    passes_on c.args.tests.now c.args.row.now c.tests.i _ c.value_in.result c.tests-test.true c.tests.invariant c.value_in.ensures c.if-not-meets_test.ensures

pub returns : goal.returns
returns c = passes_end c.args.tests.now c.args.row.now c.tests.i c.tests-test.false c.tests.invariant
