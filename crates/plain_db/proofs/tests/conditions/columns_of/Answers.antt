use Rattle.std.proofs.Common.{◌∙◌, ap, length}
use Rattle.plain_db.proofs.ConditionLemmas.{count-at, count-past}
use Rattle.plain_db.proofs.tests.conditions.columns_of.Goals as goal

pub returns-then-i-tables : goal.returns-then-i-tables
returns-then-i-tables c =
    ap length c.as_slice.ensures ∙ count-at c.args.tables.now c.args.t c.index-tables-i.result c.if-i-tables.true

pub returns-else-i-tables : goal.returns-else-i-tables
returns-else-i-tables c = count-past c.args.tables.now c.args.t c.if-i-tables.false
