use Rattle.std.proofs.Common.{refl}
use Rattle.workload.specs.Transaction.{is_op}
use Rattle.plain_db.proofs.trying.changes.Goals as goal

pub returns-in-Inserted : goal.returns-in-Inserted
unfolding is_op
returns-in-Inserted c = rw c.in-Inserted.is refl

pub returns-in-Deleted : goal.returns-in-Deleted
unfolding is_op
returns-in-Deleted c = rw c.in-Deleted.is refl

pub returns-in-Count : goal.returns-in-Count
unfolding is_op
returns-in-Count c = rw c.in-Count.is refl

pub returns-in-Min : goal.returns-in-Min
unfolding is_op
returns-in-Min c = rw c.in-Min.is refl

pub returns-in-Max : goal.returns-in-Max
unfolding is_op
returns-in-Max c = rw c.in-Max.is refl

pub returns-in-Rows : goal.returns-in-Rows
unfolding is_op
returns-in-Rows c = rw c.in-Rows.is refl
