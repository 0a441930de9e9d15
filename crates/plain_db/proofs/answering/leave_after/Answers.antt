use Rattle.std.proofs.Common.{refl}
use Rattle.workload.specs.Selection.{selected, chosen}
use Rattle.workload.specs.Outcome.{left_by}
use Rattle.plain_db.proofs.answering.leave_after.Goals as goal

pub returns-in-Rows : goal.returns-in-Rows
unfolding left_by
returns-in-Rows c = rw c.in-Rows.is refl

pub returns-in-Count : goal.returns-in-Count
unfolding left_by
returns-in-Count c = rw c.in-Count.is refl

pub returns-in-Min : goal.returns-in-Min
unfolding left_by
returns-in-Min c = rw c.in-Min.is refl

pub returns-in-Max : goal.returns-in-Max
unfolding left_by
returns-in-Max c = rw c.in-Max.is refl

pub returns-in-Delete : goal.returns-in-Delete
unfolding left_by selected chosen
returns-in-Delete c = rw c.in-Delete.is (rw c.as_slice.ensures at c.take_rows_out.ensures)
