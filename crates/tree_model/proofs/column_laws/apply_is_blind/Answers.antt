use Rattle.tree_model.proofs.Blind.{apply-map}
use Rattle.tree_model.proofs.column_laws.apply_is_blind.Goals as goal

pub returns : goal.returns
returns g c = apply-map
