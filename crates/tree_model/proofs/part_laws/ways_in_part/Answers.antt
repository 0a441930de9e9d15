use Rattle.tree_model.proofs.Parts.{ways_in_part}
use Rattle.tree_model.proofs.part_laws.ways_in_part.Goals as goal

pub returns : goal.returns
returns g c = ways_in_part
