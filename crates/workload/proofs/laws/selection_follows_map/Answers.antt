use Rattle.workload.proofs.MapLemmas.{selected-map}
use Rattle.workload.proofs.laws.selection_follows_map.Goals as goal

pub returns : goal.returns
returns g c = selected-map
