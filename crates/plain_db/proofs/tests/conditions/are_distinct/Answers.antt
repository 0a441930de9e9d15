use Rattle.std.proofs.lemmas.Bool.{eqb-true}
use Rattle.plain_db.proofs.ConditionLemmas.{one-distinct, two-distinct}
use Rattle.plain_db.proofs.tests.conditions.are_distinct.Goals as goal

pub returns-then-names-eq2 : goal.returns-then-names-eq2
returns-then-names-eq2 c = λ h.
    two-distinct c.args.names.now c.index-names-0.result c.index-names-1.result c.if-names-eq2.true c.index-names-0.is c.index-names-1.is
    (c.differ.ensures h)

pub returns : goal.returns
returns c = λ h. one-distinct c.args.names.now (eqb-true _ _ h)
