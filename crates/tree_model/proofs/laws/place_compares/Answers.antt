use Rattle.tree_model.proofs.Ordered.{place_compares}
use Rattle.tree_model.proofs.laws.place_compares.Goals as goal

pub returns : goal.returns
returns c = place_compares
