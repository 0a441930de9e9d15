use Rattle.std.proofs.Common.{refl}
use Rattle.plain_db.specs.TakingBack.{undone}
use Rattle.plain_db.proofs.taking_back.take_one_back.Goals as goal

pub returns-in-Nothing : goal.returns-in-Nothing
unfolding undone
returns-in-Nothing c = rw c.in-Nothing.is refl

pub returns-in-Insert : goal.returns-in-Insert
unfolding undone
returns-in-Insert c = rw c.in-Insert.is c.take_last_out.ensures

pub returns-in-Delete : goal.returns-in-Delete
unfolding undone
returns-in-Delete c = rw c.in-Delete.is c.put_rows_back.ensures
