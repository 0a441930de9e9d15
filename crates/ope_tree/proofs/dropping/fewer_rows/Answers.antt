use Rattle.std.proofs.Common.{ap}
use Rattle.tree_model.specs.Items.{one_less}
use Rattle.ope_tree.specs.Nodes.{item_of}
use Rattle.ope_tree.proofs.RowDrops.{counted}
use Rattle.ope_tree.proofs.dropping.fewer_rows.Goals as goal

pub returns : goal.returns
unfolding item_of one_less
returns c = ap (counted c.args.entry.body) c.saturating_sub.ensures
