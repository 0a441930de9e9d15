use Rattle.table_model.proofs.Ops.{installs_are_by_rank}
use Rattle.table_model.proofs.operation_laws.installs_are_by_rank.Goals as goal

pub returns : goal.returns
returns g c = installs_are_by_rank
