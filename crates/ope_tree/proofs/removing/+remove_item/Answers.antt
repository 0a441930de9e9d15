use Rattle.std.proofs.Common.{◌≡◌, ◌-◌, ℕ, suc, Option, arith, sym, ap, ◌∙◌}
use Rattle.tree_model.specs.Trees.{Tree, node, size}
use Rattle.tree_model.specs.Items.{Item}
use Rattle.mope_base.specs.declared.body.Body.{Body}
use Rattle.ope_tree.specs.Nodes.{item_of, tree_of}
use Rattle.ope_tree.proofs.Reaching.{reach}
use Rattle.ope_tree.proofs.Links.{IsLink-extended}
use Rattle.ope_tree.proofs.Builders.{reach-older, built_nothing, built_same, built_left_as, built_right_as}
use Rattle.ope_tree.proofs.LinkCases.{no_tree, node_of_link}
use Rattle.tree_model.specs.Removal.{joined, remove_tree}
use Rattle.tree_model.proofs.Removals.{remove-left, remove-here, remove-right}
use Rattle.ope_tree.proofs.removing.+remove_item.Goals as goal

pub returns-in_default : goal.returns-in_default
unfolding remove_tree
returns-in_default t c =
    let nodes = c.args.nodes.now in
    let none = no_tree nodes c.args.link c.in_default.is in
    built_nothing nodes (remove_tree (tree_of nodes c.args.link) c.args.rank) (ap (λ (u : Tree (Item Body)). remove_tree u c.args.rank) none)

pub get-node-requires : goal.get-node-requires
get-node-requires t c = node_of_link c.args.nodes.now c.args.link c.in-Some.at c.requires c.in-Some.is

pub remove_item-requires : goal.remove_item-requires
remove_item-requires t c =
    let parent : reach c.args.link ≡ suc c.in-Some.at = ap reach c.in-Some.is in
    let lower = reach-older c.in-Some.at c.get-node.result.left c.get-node.ensures.left_older in
    (omega (arith, parent, lower, c.decreases), c.get-node.ensures.left)

pub join-requires-clause-right : goal.join-requires-clause-right
join-requires-clause-right t c = IsLink-extended c.args.nodes.now c.remove_item.new.nodes c.get-node.result.right c.in_ok-left.ensures.extends c.get-node.ensures.right

pub returns-then-rank-before : goal.returns-then-rank-before
returns-then-rank-before t c =
    let nodes = c.args.nodes.now in
    let left = c.get-node.result.left in
    let right = c.get-node.result.right in
    let l = tree_of nodes left in
    let r = tree_of nodes right in
    let x = item_of c.get-node.result.entry in
    let here = ap (λ (link : Option ℕ). tree_of nodes link) c.in-Some.is ∙ c.get-node.ensures.tree in
    built_left_as nodes c.remove_item.new.nodes c.join.new.nodes c.in_ok-left.left right c.in_ok-fewer.fewer x (remove_tree l c.args.rank) (remove_tree (tree_of nodes c.args.link) c.args.rank)
    c.in_ok-left.ensures c.get-node.ensures.right c.in_ok-fewer.ensures
    (ap (λ (u : Tree (Item Body)). remove_tree u c.args.rank) here ∙ remove-left l x r c.args.rank (omega arith))

pub remove_item-requires-then-before-rank : goal.remove_item-requires-then-before-rank
remove_item-requires-then-before-rank t c =
    let parent : reach c.args.link ≡ suc c.in-Some.at = ap reach c.in-Some.is in
    let lower = reach-older c.in-Some.at c.get-node.result.right c.get-node.ensures.right_older in
    (omega (arith, parent, lower, c.decreases), c.get-node.ensures.right)

pub join-requires-then-before-rank-clause-left : goal.join-requires-then-before-rank-clause-left
join-requires-then-before-rank-clause-left t c = IsLink-extended c.args.nodes.now c.remove_item-then-before-rank.new.nodes c.get-node.result.left c.in_ok-right.ensures.extends c.get-node.ensures.left

pub returns-then-before-rank : goal.returns-then-before-rank
returns-then-before-rank t c =
    let nodes = c.args.nodes.now in
    let left = c.get-node.result.left in
    let right = c.get-node.result.right in
    let l = tree_of nodes left in
    let r = tree_of nodes right in
    let x = item_of c.get-node.result.entry in
    let here = ap (λ (link : Option ℕ). tree_of nodes link) c.in-Some.is ∙ c.get-node.ensures.tree in
    let k = c.args.rank - c.get-node.result.before - 1 in
    let same : c.args.rank - suc (size l) ≡ k = omega (arith, c.get-node.ensures.before_is) in
    built_right_as nodes c.remove_item-then-before-rank.new.nodes c.join-then-before-rank.new.nodes left c.in_ok-right.right c.in_ok-fewer-2.fewer x (remove_tree r k) (remove_tree (tree_of nodes c.args.link) c.args.rank)
    c.get-node.ensures.left c.in_ok-right.ensures c.in_ok-fewer-2.ensures
    (ap (λ (u : Tree (Item Body)). remove_tree u c.args.rank) here ∙ remove-right l x r c.args.rank (omega arith) ∙ ap (λ (n : ℕ). node l x (remove_tree r n)) same)

pub returns : goal.returns
returns t c =
    let nodes = c.args.nodes.now in
    let l = tree_of nodes c.get-node.result.left in
    let r = tree_of nodes c.get-node.result.right in
    let x = item_of c.get-node.result.entry in
    let here = ap (λ (link : Option ℕ). tree_of nodes link) c.in-Some.is ∙ c.get-node.ensures.tree in
    built_same nodes c.join_sides.new.nodes c.in_ok-fewer-3.fewer (joined l r) (remove_tree (tree_of nodes c.args.link) c.args.rank)
    (sym (ap (λ (u : Tree (Item Body)). remove_tree u c.args.rank) here ∙ remove-here l x r c.args.rank (omega arith)))
    c.in_ok-fewer-3.ensures
