use Rattle.tree_model.proofs.Limits.{limit-greatest}
use Rattle.tree_model.proofs.column_laws.limit_is_greatest.Goals as goal

pub returns : goal.returns
returns c = limit-greatest
