-- So many columns are there.
use Rattle.std.proofs.Common.{◌≡◌, replicate}
use Rattle.enc_table.specs.Stored.{no_column}
use Rattle.enc_table.proofs.stored_rows.new_columns.Given as goal

abbrev pub invariant-columns : goal.invariant-columns
invariant-columns l = l.columns.items ≡ replicate l._at no_column
