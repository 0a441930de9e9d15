use Rattle.tree_model.proofs.Risen.{origins-rising}
use Rattle.tree_model.proofs.column_laws.origins_rise.Goals as goal

pub returns : goal.returns
returns g c = origins-rising
