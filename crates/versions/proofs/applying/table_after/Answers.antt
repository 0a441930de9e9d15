use Rattle.std.proofs.Common.{◌∙◌, sym}
use Rattle.versions.specs.Operations.{rank_ops}
use Rattle.versions.proofs.Tables.{stays-unwritten, nothing-listed}
use Rattle.versions.proofs.applying.table_after.Goals as goal

pub returns-clause-value : goal.returns-clause-value
returns-clause-value c = c.in_ok-share-2.ensures.value ∙ stays-unwritten c.args.version.now (rank_ops c.args.ops.now) c.args.table.0 (sym c.if-is_written.ensures)

pub returns-clause-changes : goal.returns-clause-changes
returns-clause-changes c = nothing-listed c.args.version.now (rank_ops c.args.ops.now) c.args.table.0 c.args.changes.now.items (sym c.if-is_written.ensures)
