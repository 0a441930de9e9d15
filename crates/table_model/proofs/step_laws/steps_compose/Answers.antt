use Rattle.table_model.proofs.ByColumns.{steps_compose}
use Rattle.table_model.proofs.step_laws.steps_compose.Goals as goal

pub returns : goal.returns
returns g c = steps_compose
