use Rattle.path_code.proofs.Sums.{sum_of-append}
use Rattle.path_code.proofs.sum_laws.sum_composes.Goals as goal

pub returns : goal.returns
returns g c = sum_of-append
