use Rattle.workload.proofs.MapLemmas.{ordered-map}
use Rattle.workload.proofs.laws.order_follows_map.Goals as goal

pub returns : goal.returns
returns g c = ordered-map
