-- The columns below the index are empty.
use Rattle.std.proofs.Common.{◌≡◌, ◌<◌, ℕ, length}
use Rattle.enc_table.specs.Stored.{no_column, stored_at}
use Rattle.enc_table.proofs.stored_rows.clear_each.Given as goal

abbrev pub invariant-columns : goal.invariant-columns
invariant-columns l = (l.at-end ≡ length l.fn.columns.items) × ((length l.columns.items ≡ length l.fn.columns.items) × ((k : ℕ) → k < l.at → stored_at l.columns.items k ≡ no_column))
