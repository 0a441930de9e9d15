-- The places below the index are those of their columns.
use Rattle.std.proofs.Common.{◌<◌, ℕ}
use Rattle.tree_model.specs.Trees.{size, IsPlaceOf}
use Rattle.table_model.specs.Soundness.{column_at}
use Rattle.enc_table.specs.Fields.{place_at}
use Rattle.enc_table.proofs.tests.are_placed.Given as goal

abbrev pub invariant-columns : goal.invariant-columns
invariant-columns l = (k : ℕ) → k < l.at → IsPlaceOf (size (column_at l.table.shelf.columns k).tree) (place_at l.places k)
