-- The columns below the index have one row more, and the changes are theirs.
use Rattle.std.proofs.Common.{◌≡◌, length}
use Rattle.enc_table.proofs.TableAdding.{AddedTo}
use Rattle.enc_table.proofs.adding.add_to_each.Given as goal

abbrev pub invariant-columns : goal.invariant-columns
invariant-columns l = (l.at-end ≡ length l.fn.columns.items) × AddedTo l.numbers l.number l.places l.bodies l.fn.columns.items l.columns.items l.at l.changes
