use Rattle.std.proofs.Common.{◌≡◌, drop}
use Rattle.versions.specs.Drafts.{is_written}
use Rattle.versions.specs.Operations.{rank_ops}
use Rattle.versions.proofs.applying.is_written.Given as goal

abbrev pub invariant-ops : goal.invariant-ops
invariant-ops l = is_written (rank_ops l.ops) l.table.0 ≡ is_written (rank_ops (drop l.op-index l.ops)) l.table.0
