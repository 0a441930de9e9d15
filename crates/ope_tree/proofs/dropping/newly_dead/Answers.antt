use Rattle.ope_tree.specs.Nodes.{item_of}
use Rattle.ope_tree.proofs.RowDrops.{emptied-last, emptied-not}
use Rattle.ope_tree.proofs.dropping.newly_dead.Goals as goal

pub returns-then-entry-eq1 : goal.returns-then-entry-eq1
unfolding item_of
returns-then-entry-eq1 c = emptied-last (item_of c.args.entry) c.if-entry-eq1.true

pub returns-else-entry-eq1 : goal.returns-else-entry-eq1
unfolding item_of
returns-else-entry-eq1 c = emptied-not (item_of c.args.entry) c.if-entry-eq1.false
