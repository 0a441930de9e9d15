-- The numbers before the index are those of rows.
use Rattle.std.proofs.Common.{◌≡◌, ◌<◌, ℕ, true, get_or}
use Rattle.tree_model.specs.Places.{holds}
use Rattle.table_model.specs.Soundness.{kept_numbers}
use Rattle.enc_table.proofs.tests.are_rows.Given as goal

abbrev pub invariant-rows : goal.invariant-rows
invariant-rows l = (k : ℕ) → k < l.at → holds (get_or l.rows k 0) (kept_numbers l.table.shelf.kept) ≡ true
