use Rattle.std.proofs.Common.{refl, ◌∙◌, sym, arith}
use Rattle.txn_core.specs.Outcomes.{conflict_on}
use Rattle.txn_core.proofs.Found.{newer_here, not_newer_here, newer_nowhere}
use Rattle.txn_core.proofs.newer.first_conflict.Goals as goal

pub tables-init : goal.tables-init
unfolding conflict_on
tables-init c = refl

pub returns-then-clashes-clause-conflict : goal.returns-then-clashes-clause-conflict
returns-then-clashes-clause-conflict c =
    sym (c.tables.invariant
    ∙ newer_here c.args.current.now.stamps c.tables.number c.args.base c.args.touched.now c.stamps_of-written.result (omega (arith, c.tables-test.true, c.tables-tables.ensures.value, c.tables-tables.ensures.database.stamped)) c.stamps_of-written.ensures.stamps (sym c.clashes.ensures.clashes ∙ c.if-clashes.true))

pub tables-preserved : goal.tables-preserved
tables-preserved c =
    c.tables.invariant
    ∙ not_newer_here c.args.current.now.stamps c.tables.number c.args.base c.args.touched.now c.stamps_of-written.result (omega (arith, c.tables-test.true, c.tables-tables.ensures.value, c.tables-tables.ensures.database.stamped)) c.stamps_of-written.ensures.stamps (sym c.clashes.ensures.clashes ∙ c.if-clashes.false)

pub returns-clause-conflict : goal.returns-clause-conflict
returns-clause-conflict c =
    sym (c.tables.invariant
    ∙ newer_nowhere c.tables.number c.args.current.now.stamps c.tables.number c.args.base c.args.touched.now (omega (arith, c.tables-test.false, c.tables-tables.ensures.value, c.tables-tables.ensures.database.stamped)))
