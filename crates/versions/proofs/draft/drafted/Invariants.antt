use Rattle.std.proofs.Common.{take}
use Rattle.versions.specs.Drafts.{IsDraft}
use Rattle.versions.specs.Operations.{rank_ops}
use Rattle.versions.proofs.draft.drafted.Given as goal

abbrev pub invariant-ops : goal.invariant-ops
invariant-ops l = IsDraft l.version l.table.0 (rank_ops (take l.at l.ops)) l.draft.table l.draft.log.items
