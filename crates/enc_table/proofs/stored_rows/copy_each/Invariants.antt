-- The columns below the index have their copies.
use Rattle.enc_table.proofs.TableMaking.{CopiedTo}
use Rattle.enc_table.proofs.stored_rows.copy_each.Given as goal

abbrev pub invariant-columns : goal.invariant-columns
invariant-columns l = CopiedTo l.numbers l.columns l.copy.items l.column-index
