use Rattle.table_model.specs.Operations.{ops_steps}
use Rattle.versions.specs.Operations.{rank_ops, with_ops}
use Rattle.versions.proofs.Made.{IsMade}
use Rattle.versions.proofs.applying.apply_ops.Given as goal

abbrev pub invariant-tables : goal.invariant-tables
invariant-tables l = IsMade l.version (with_ops (rank_ops l.ops) l.version) (λ t. ops_steps l.version.same_time t (rank_ops l.ops) l.version.shelves) l.at l.tables.items l.changes.items
