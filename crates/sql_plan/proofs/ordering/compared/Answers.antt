use Rattle.std.proofs.Common.{is_lt}
use Rattle.sql_plan.proofs.EntryOrder.{compared-entries}
use Rattle.sql_plan.proofs.ordering.compared.Goals as goal

pub returns : goal.returns
returns c = rw (c.then.ensures, c.cmp.ensures, c.cmp-2.ensures) (compared-entries c.args.a.now c.args.b.now)
