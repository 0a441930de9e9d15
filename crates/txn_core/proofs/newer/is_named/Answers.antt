use Rattle.std.proofs.Common.{◌∙◌, sym, arith, eq-eqb, ne_eqb}
use Rattle.txn_core.proofs.Found.{named_here, not_named_here, named_nowhere}
use Rattle.txn_core.proofs.newer.is_named.Goals as goal

pub returns-then-named-table : goal.returns-then-named-table
returns-then-named-table c =
    record { named = sym (c.touched.invariant ∙ named_here c.args.touched.now c.touched.named-index c.args.table.0 (record { 0 = 0 }) c.touched-test.true (eq-eqb _ _ c.if-named-table.true)) }

pub touched-preserved : goal.touched-preserved
touched-preserved c =
    c.touched.invariant ∙ not_named_here c.args.touched.now c.touched.named-index c.args.table.0 (record { 0 = 0 }) c.touched-test.true (ne_eqb _ _ c.if-named-table.false)

pub returns : goal.returns
returns c = record { named = sym (c.touched.invariant ∙ named_nowhere c.args.touched.now c.touched.named-index c.args.table.0 (omega (arith, c.touched-test.false))) }
