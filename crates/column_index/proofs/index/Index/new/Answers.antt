use Rattle.std.proofs.Common.{List, false, ap, sym, subst}
use Rattle.column_index.specs.declared.entry.Entry.{Entry}
use Rattle.column_index.specs.Entries.{IsOrdered}
use Rattle.column_index.specs.Seen.{index_of, spent_index, Seen}
use Rattle.column_index.proofs.index.Index.new.Goals as goal

pub invariant_of-result : goal.invariant_of-result
unfolding IsOrdered
invariant_of-result c = record { ordered = subst IsOrdered (sym c.new.ensures) tt; gone = λ h. c.new.ensures }

pub returns : goal.returns
unfolding index_of spent_index
returns c = let seen : List Entry → Seen = λ entries. record { entries = entries; spent = false } in ap seen c.new.ensures
