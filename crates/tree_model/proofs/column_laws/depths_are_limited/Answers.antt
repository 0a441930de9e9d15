use Rattle.tree_model.proofs.Kept.{depths_are_limited}
use Rattle.tree_model.proofs.column_laws.depths_are_limited.Goals as goal

pub returns : goal.returns
returns g c = depths_are_limited
