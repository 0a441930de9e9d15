use Rattle.tree_model.proofs.Kept.{IsKept-short}
use Rattle.tree_model.proofs.column_laws.ways_are_short.Goals as goal

pub returns : goal.returns
returns g c = IsKept-short
