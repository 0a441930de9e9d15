use Rattle.std.proofs.Common.{◌≡◌, ◌++◌, take}
use Rattle.table_model.specs.Operations.{ops_steps, shelf_at}
use Rattle.versions.specs.Changes.{column_changes}
use Rattle.versions.specs.Operations.{rank_ops}
use Rattle.versions.proofs.listing.push_changes.Given as goal

abbrev pub invariant-columns : goal.invariant-columns
invariant-columns l = l.changes.items ≡ l.fn.changes.items ++ column_changes l.version.same_time l.table.0 0 (ops_steps l.version.same_time l.table.0 (rank_ops l.ops) l.version.shelves) (take l.column (shelf_at l.version.shelves l.table.0).columns)
