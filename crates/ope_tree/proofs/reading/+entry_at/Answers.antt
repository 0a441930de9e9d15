use Rattle.std.proofs.Common.{◌≡◌, ◌-◌, ℕ, suc, Option, arith, ap, ◌∙◌}
use Rattle.ope_tree.specs.Nodes.{item_of, tree_of}
use Rattle.ope_tree.proofs.Reaching.{reach}
use Rattle.ope_tree.proofs.Builders.{reach-older}
use Rattle.ope_tree.proofs.LinkCases.{no_tree, node_of_link}
use Rattle.ope_tree.proofs.Walking.{item-left, item-here, item-right, item-none}
use Rattle.ope_tree.proofs.reading.+entry_at.Goals as goal

pub returns-in_default : goal.returns-in_default
returns-in_default t c = item-none (tree_of c.args.nodes.now c.args.link) c.args.rank (no_tree c.args.nodes.now c.args.link c.in_default.is)

pub get-node-requires : goal.get-node-requires
get-node-requires t c = node_of_link c.args.nodes.now c.args.link c.in-Some.at c.requires c.in-Some.is

pub entry_at-requires : goal.entry_at-requires
entry_at-requires t c =
    let parent : reach c.args.link ≡ suc c.in-Some.at = ap reach c.in-Some.is in
    let child = reach-older c.in-Some.at c.get-node.result.left c.get-node.ensures.left_older in
    (omega (arith, parent, child, c.decreases), c.get-node.ensures.left)

pub entry_at-requires-then-before-rank : goal.entry_at-requires-then-before-rank
entry_at-requires-then-before-rank t c =
    let parent : reach c.args.link ≡ suc c.in-Some.at = ap reach c.in-Some.is in
    let child = reach-older c.in-Some.at c.get-node.result.right c.get-node.ensures.right_older in
    (omega (arith, parent, child, c.decreases), c.get-node.ensures.right)

pub returns-then-rank-before : goal.returns-then-rank-before
returns-then-rank-before t c =
    let nodes = c.args.nodes.now in
    let here = ap (λ (link : Option ℕ). tree_of nodes link) c.in-Some.is ∙ c.get-node.ensures.tree in
    item-left (tree_of nodes c.get-node.result.left) (item_of c.get-node.result.entry) (tree_of nodes c.get-node.result.right) (tree_of nodes c.args.link) c.args.rank here (omega arith)
    ∙ c.entry_at.ensures

pub returns-then-before-rank : goal.returns-then-before-rank
returns-then-before-rank t c =
    let nodes = c.args.nodes.now in
    let here = ap (λ (link : Option ℕ). tree_of nodes link) c.in-Some.is ∙ c.get-node.ensures.tree in
    item-right (tree_of nodes c.get-node.result.left) (item_of c.get-node.result.entry) (tree_of nodes c.get-node.result.right) (tree_of nodes c.args.link) c.args.rank (c.args.rank - c.get-node.result.before - 1) here (omega arith)
    ∙ c.entry_at-then-before-rank.ensures

pub returns : goal.returns
returns t c =
    let nodes = c.args.nodes.now in
    let here = ap (λ (link : Option ℕ). tree_of nodes link) c.in-Some.is ∙ c.get-node.ensures.tree in
    item-here (tree_of nodes c.get-node.result.left) (item_of c.get-node.result.entry) (tree_of nodes c.get-node.result.right) (tree_of nodes c.args.link) c.args.rank here (omega arith)
