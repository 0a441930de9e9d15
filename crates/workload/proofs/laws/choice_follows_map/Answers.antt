use Rattle.workload.proofs.MapLemmas.{chosen-map}
use Rattle.workload.proofs.laws.choice_follows_map.Goals as goal

pub returns : goal.returns
returns g c = chosen-map
