use Rattle.path_code.proofs.Increasing.{sums_increase}
use Rattle.path_code.proofs.sum_laws.sums_increase.Goals as goal

pub returns : goal.returns
returns g c = sums_increase
