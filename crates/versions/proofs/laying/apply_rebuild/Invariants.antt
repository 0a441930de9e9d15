use Rattle.std.proofs.Common.{◌==◌, [], ◌∷◌}
use Rattle.table_model.specs.Operations.{steps_if}
use Rattle.table_model.specs.Steps.{only}
use Rattle.tree_model.specs.Columns.{Lay}
use Rattle.versions.specs.Operations.{with_install}
use Rattle.versions.proofs.Made.{IsMade}
use Rattle.versions.proofs.laying.apply_rebuild.Given as goal

abbrev pub invariant-tables : goal.invariant-tables
invariant-tables l = IsMade l.version (with_install l.table.0 l.column.0 l.version) (λ t. steps_if (t == l.table.0) (only l.column.0 (Lay ∷ []))) l.at l.tables.items l.changes.items
