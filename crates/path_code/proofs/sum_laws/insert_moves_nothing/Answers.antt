use Rattle.path_code.proofs.Sums.{sum_of-insert}
use Rattle.path_code.proofs.sum_laws.insert_moves_nothing.Goals as goal

pub returns : goal.returns
returns g c = sum_of-insert
