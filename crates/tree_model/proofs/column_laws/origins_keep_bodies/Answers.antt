use Rattle.tree_model.proofs.Pinned.{origins-bodies}
use Rattle.tree_model.proofs.column_laws.origins_keep_bodies.Goals as goal

pub returns : goal.returns
returns g c = origins-bodies
