use Rattle.column_index.proofs.Points.{starts_here, starts_past}
use Rattle.column_index.proofs.moving.start_of.Goals as goal

pub returns-else-entry-code : goal.returns-else-entry-code
returns-else-entry-code c = starts_here c.args.code c.args.entries.now c.args.place c.in-Some.entry c.requires.ordered c.requires.from c.in-Some.ensures c.if-entry-code.false

pub returns-in-None : goal.returns-in-None
returns-in-None c = starts_past c.args.code c.args.entries.now c.args.place c.requires.from c.in-None.ensures
