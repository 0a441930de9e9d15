use Rattle.ope_tree.specs.Nodes.{item_of}
use Rattle.ope_tree.proofs.Tidying.{no_item, an_item}
use Rattle.ope_tree.proofs.dropping.has_no_rows.Goals as goal

pub returns-in-None : goal.returns-in-None
returns-in-None c = no_item _ c.in-None.ensures

pub returns-in-Some : goal.returns-in-Some
unfolding item_of
returns-in-Some c = an_item _ (item_of c.in-Some.entry) c.in-Some.ensures
