use Rattle.table_model.proofs.Ops.{installs_are_blind}
use Rattle.table_model.proofs.operation_laws.installs_are_blind.Goals as goal

pub returns : goal.returns
returns g c = installs_are_blind
