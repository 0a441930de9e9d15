use Rattle.tree_model.proofs.Unseen.{items-after_lay}
use Rattle.tree_model.proofs.column_laws.lay_is_unseen.Goals as goal

pub returns : goal.returns
returns g c = items-after_lay
