use Rattle.tree_model.proofs.Ordered.{IsIncreasing-insert}
use Rattle.tree_model.proofs.laws.gap_keeps_order.Goals as goal

pub returns : goal.returns
returns c = IsIncreasing-insert
