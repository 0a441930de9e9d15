use Rattle.workload.proofs.MapLemmas.{answer-map}
use Rattle.workload.proofs.laws.answer_follows_map.Goals as goal

pub returns : goal.returns
returns g c = answer-map
