use Rattle.std.proofs.Common.{◌≡◌, ℕ, ◌||◌, Bool, true, false, ◌+◌, drop, ap, sym, ◌∙◌, eqb}
use Rattle.versions.specs.Drafts.{is_written}
use Rattle.versions.specs.Operations.{rank_op, rank_ops, op_table}
use Rattle.versions.proofs.OpsOn.{written-here, written-past}
use Rattle.versions.proofs.applying.is_written.Goals as goal

pub returns-then-eq : goal.returns-then-eq
returns-then-eq c =
    let same : eqb (op_table (rank_op c.op-item.result)) c.args.table.0 ≡ true = ap (λ (t : ℕ). eqb t c.args.table.0) (sym c.table.ensures) ∙ sym c.if-eq.ensures in
    sym (c.ops.invariant ∙ written-here c.args.ops.now c.ops.op-index c.op-item.result c.args.table.0 c.ops-test.true c.op-item.is
    ∙ ap (λ (b : Bool). b || is_written (rank_ops (drop (c.ops.op-index + 1) c.args.ops.now)) c.args.table.0) same)

pub ops-preserved : goal.ops-preserved
ops-preserved c =
    let other : eqb (op_table (rank_op c.op-item.result)) c.args.table.0 ≡ false = ap (λ (t : ℕ). eqb t c.args.table.0) (sym c.table.ensures) ∙ sym c.if-eq.ensures in
    c.ops.invariant ∙ written-here c.args.ops.now c.ops.op-index c.op-item.result c.args.table.0 c.ops-test.true c.op-item.is
    ∙ ap (λ (b : Bool). b || is_written (rank_ops (drop (c.ops.op-index + 1) c.args.ops.now)) c.args.table.0) other

pub returns : goal.returns
returns c = sym (c.ops.invariant ∙ written-past c.args.ops.now c.ops.op-index c.args.table.0 c.ops-test.false)
