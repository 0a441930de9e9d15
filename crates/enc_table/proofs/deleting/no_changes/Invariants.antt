-- So many lists are there.
use Rattle.std.proofs.Common.{◌≡◌, [], replicate}
use Rattle.enc_table.proofs.deleting.no_changes.Given as goal

abbrev pub invariant-columns : goal.invariant-columns
invariant-columns l = l.changes.items ≡ replicate l._at []
