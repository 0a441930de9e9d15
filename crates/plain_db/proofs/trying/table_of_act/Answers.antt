use Rattle.std.proofs.Common.{refl}
use Rattle.workload.specs.Transaction.{table_named}
use Rattle.plain_db.proofs.trying.table_of_act.Goals as goal

pub returns-in-Insert : goal.returns-in-Insert
unfolding table_named
returns-in-Insert c = rw c.in-Insert.is refl

pub returns-in-Ask : goal.returns-in-Ask
unfolding table_named
returns-in-Ask c = rw c.in-Ask.is refl
