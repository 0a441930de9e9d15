use Rattle.std.proofs.Common.{refl}
use Rattle.versions.specs.Operations.{op_table, rank_op}
use Rattle.versions.proofs.op.Op.table.Goals as goal

pub returns-in-Insert : goal.returns-in-Insert
unfolding op_table rank_op
returns-in-Insert c = rw c.in-Insert.is refl

pub returns-in-Delete : goal.returns-in-Delete
unfolding op_table rank_op
returns-in-Delete c = rw c.in-Delete.is refl
