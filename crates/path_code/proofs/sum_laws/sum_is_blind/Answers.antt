use Rattle.path_code.proofs.BlindSums.{sum_of-map}
use Rattle.path_code.proofs.sum_laws.sum_is_blind.Goals as goal

pub returns : goal.returns
returns g c = sum_of-map
