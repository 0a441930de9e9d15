use Rattle.table_model.proofs.ByColumns.{steps_are_blind}
use Rattle.table_model.proofs.step_laws.steps_are_blind.Goals as goal

pub returns : goal.returns
returns g c = steps_are_blind
