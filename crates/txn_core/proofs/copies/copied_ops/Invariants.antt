use Rattle.std.proofs.Common.{◌≡◌, take}
use Rattle.txn_core.proofs.copies.copied_ops.Given as goal

abbrev pub invariant-ops : goal.invariant-ops
invariant-ops l = l.copy ≡ take l.op-index l.ops
