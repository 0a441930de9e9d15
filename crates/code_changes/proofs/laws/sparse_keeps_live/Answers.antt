use Rattle.code_changes.proofs.Sparse.{sparse_keeps_live}
use Rattle.code_changes.proofs.laws.sparse_keeps_live.Goals as goal

pub returns : goal.returns
returns g c = sparse_keeps_live
