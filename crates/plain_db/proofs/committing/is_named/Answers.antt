use Rattle.plain_db.proofs.CommittingLemmas.{named_here, named_further, named_none}
use Rattle.plain_db.proofs.committing.is_named.Goals as goal

pub returns-then-tables-k : goal.returns-then-tables-k
returns-then-tables-k c = named_here c.args.tables.now c.tables.k _ c.args.i c.tables-test.true c.tables.invariant c.if-tables-k.true

pub tables-preserved : goal.tables-preserved
tables-preserved c = named_further c.args.tables.now c.tables.k _ c.args.i c.tables-test.true c.tables.invariant c.if-tables-k.false

pub returns : goal.returns
returns c = named_none c.args.tables.now c.tables.k c.args.i c.tables-test.false c.tables.invariant
