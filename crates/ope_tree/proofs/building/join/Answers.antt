use Rattle.ope_tree.proofs.Builders.{built_node}
use Rattle.ope_tree.specs.declared.nodes.Node.{Node}
use Rattle.ope_tree.proofs.building.join.Goals as goal

pub returns : goal.returns
returns c =
    let n : Node = record { left = c.args.left; right = c.args.right; size = c.in-Some-checked_add.size; before = c.size_of-before.result; entry = c.args.entry } in
    built_node c.args.nodes.now c.push.new.self n c.in_ok-at.at c.in_ok-at.ensures.pushed c.in_ok-at.ensures.number
