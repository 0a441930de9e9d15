use Rattle.tree_model.proofs.Kept.{depths_follow_size}
use Rattle.tree_model.proofs.column_laws.depths_follow_size.Goals as goal

pub returns : goal.returns
returns g c = depths_follow_size
