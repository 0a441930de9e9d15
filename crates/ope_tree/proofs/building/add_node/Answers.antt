use Rattle.ope_tree.proofs.Builders.{built_node}
use Rattle.ope_tree.proofs.building.add_node.Goals as goal

pub returns : goal.returns
returns c = built_node c.args.nodes.now c.push.new.self c.args.top c.in_ok-at.at c.in_ok-at.ensures.pushed c.in_ok-at.ensures.number
