use Rattle.table_model.proofs.Ops.{ops_are_by_rank}
use Rattle.table_model.proofs.operation_laws.ops_are_by_rank.Goals as goal

pub returns : goal.returns
returns g c = ops_are_by_rank
