use Rattle.tree_model.proofs.CarriedRanks.{carried-composed}
use Rattle.tree_model.proofs.row_laws.carried_composes.Goals as goal

pub returns : goal.returns
returns c = carried-composed
