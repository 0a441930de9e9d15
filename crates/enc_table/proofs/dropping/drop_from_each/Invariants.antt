-- The columns below the index have one row fewer, and their lists one change more.
use Rattle.std.proofs.Common.{◌≡◌, length}
use Rattle.mope_base.specs.Modes.{is_same_time}
use Rattle.enc_table.proofs.TableDropping.{DroppedTo}
use Rattle.enc_table.proofs.dropping.drop_from_each.Given as goal

abbrev pub invariant-columns : goal.invariant-columns
invariant-columns l = (l.at-end ≡ length l.fn.columns.items) × DroppedTo (is_same_time l.mode) l.numbers l.position l.fn.columns.items l.columns.items l.at l.fn.changes.items l.changes.items
