use Rattle.tree_model.proofs.Summed.{origins-append}
use Rattle.tree_model.proofs.column_laws.origins_compose.Goals as goal

pub returns : goal.returns
returns g c = origins-append
