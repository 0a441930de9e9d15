use Rattle.std.proofs.Common.{◌≡◌, ℕ, suc, Option, arith, sym, ap, ◌∙◌}
use Rattle.tree_model.specs.Trees.{Tree}
use Rattle.tree_model.specs.Items.{Item}
use Rattle.mope_base.specs.declared.body.Body.{Body}
use Rattle.ope_tree.specs.Nodes.{item_of, tree_of}
use Rattle.ope_tree.proofs.Reaching.{reach}
use Rattle.ope_tree.proofs.Links.{IsLink-extended}
use Rattle.ope_tree.proofs.Builders.{reach-older, built_before, built_same, built_left_as}
use Rattle.ope_tree.proofs.LinkCases.{no_tree, node_of_link}
use Rattle.tree_model.specs.Removal.{without_first}
use Rattle.ope_tree.proofs.removing.+remove_first.Goals as goal

pub returns-in_default : goal.returns-in_default
unfolding without_first
returns-in_default t c =
    let nodes = c.args.nodes.now in
    let r = tree_of nodes c.args.right in
    let x = item_of c.args.entry in
    built_same nodes nodes c.args.right r (without_first (tree_of nodes c.args.left) x r) (sym (ap (λ (u : Tree (Item Body)). without_first u x r) (no_tree nodes c.args.left c.in_default.is)))
    (built_before nodes c.args.right c.requires.right)

pub get-node-requires : goal.get-node-requires
get-node-requires t c = node_of_link c.args.nodes.now c.args.left c.in-Some.at c.requires.left c.in-Some.is

pub remove_first-requires : goal.remove_first-requires
remove_first-requires t c =
    let parent : reach c.args.left ≡ suc c.in-Some.at = ap reach c.in-Some.is in
    let lower = reach-older c.in-Some.at c.get-node.result.left c.get-node.ensures.left_older in
    (omega (arith, parent, lower, c.decreases), (c.get-node.ensures.left, c.get-node.ensures.right))

pub join-requires-clause-right : goal.join-requires-clause-right
join-requires-clause-right t c = IsLink-extended c.args.nodes.now c.remove_first.new.nodes c.args.right c.in_ok-lower.ensures.extends c.requires.right

pub returns : goal.returns
unfolding without_first
returns t c =
    let nodes = c.args.nodes.now in
    let a = tree_of nodes c.get-node.result.left in
    let b = tree_of nodes c.get-node.result.right in
    let y = item_of c.get-node.result.entry in
    let x = item_of c.args.entry in
    let r = tree_of nodes c.args.right in
    let here = ap (λ (link : Option ℕ). tree_of nodes link) c.in-Some.is ∙ c.get-node.ensures.tree in
    built_left_as nodes c.remove_first.new.nodes c.join.new.nodes c.in_ok-lower.lower c.args.right c.in_ok-rest.rest x (without_first a y b) (without_first (tree_of nodes c.args.left) x r)
    c.in_ok-lower.ensures c.requires.right c.in_ok-rest.ensures
    (ap (λ (u : Tree (Item Body)). without_first u x r) here)
