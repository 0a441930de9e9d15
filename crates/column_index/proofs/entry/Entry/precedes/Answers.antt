use Rattle.std.proofs.Common.{rules}
use Rattle.column_index.specs.Entries.{precedes}
use Rattle.column_index.proofs.entry.Entry.precedes.Goals as goal

pub returns-then-self-other : goal.returns-then-self-other
unfolding precedes
returns-then-self-other c = search rules

pub returns-then-self-other-2 : goal.returns-then-self-other-2
unfolding precedes
returns-then-self-other-2 c = search rules

pub returns-else-self-other-2 : goal.returns-else-self-other-2
unfolding precedes
returns-else-self-other-2 c = search rules
