use Rattle.ope_tree.proofs.Sound.{sound_empty, seen_empty}
use Rattle.ope_tree.proofs.tree.Tree.empty.Goals as goal

pub invariant_of-result : goal.invariant_of-result
invariant_of-result c = sound_empty c.new.result c.args.spent c.new.ensures

pub returns : goal.returns
returns c = seen_empty c.new.result c.args.spent c.new.ensures
