use Rattle.tree_model.proofs.Limits.{limit-le}
use Rattle.tree_model.proofs.column_laws.limit_rises.Goals as goal

pub returns : goal.returns
returns c = limit-le
