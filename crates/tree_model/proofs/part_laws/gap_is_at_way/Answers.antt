use Rattle.tree_model.proofs.Parts.{gap_at}
use Rattle.tree_model.proofs.part_laws.gap_is_at_way.Goals as goal

pub returns : goal.returns
returns g c = gap_at
