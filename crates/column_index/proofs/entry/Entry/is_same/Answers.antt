use Rattle.std.proofs.Common.{rules}
use Rattle.column_index.specs.Entries.{is_same}
use Rattle.column_index.proofs.entry.Entry.is_same.Goals as goal

pub returns-then-self-other : goal.returns-then-self-other
unfolding is_same
returns-then-self-other c = search rules

pub returns-else-self-other : goal.returns-else-self-other
unfolding is_same
returns-else-self-other c = search rules
