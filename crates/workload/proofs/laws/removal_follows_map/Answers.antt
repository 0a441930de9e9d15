use Rattle.workload.proofs.MapLemmas.{without_rows-map}
use Rattle.workload.proofs.laws.removal_follows_map.Goals as goal

pub returns : goal.returns
returns g c = without_rows-map
