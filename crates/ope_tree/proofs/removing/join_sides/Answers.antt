use Rattle.std.proofs.Common.{ℕ, Option, sym, ap, ◌∙◌}
use Rattle.tree_model.specs.Trees.{node}
use Rattle.tree_model.specs.Items.{Item}
use Rattle.mope_base.specs.declared.body.Body.{Body}
use Rattle.ope_tree.specs.Nodes.{item_of, tree_of}
use Rattle.ope_tree.proofs.Links.{IsLink-extended}
use Rattle.ope_tree.proofs.Builders.{built_before, built_same, built_right_as}
use Rattle.ope_tree.proofs.LinkCases.{no_tree, node_of_link, some_items}
use Rattle.tree_model.specs.Removal.{without_first, joined}
use Rattle.ope_tree.proofs.MovedCodes.{joined-no_left, joined-no_right, joined-both}
use Rattle.ope_tree.proofs.removing.join_sides.Goals as goal

pub returns-in_default : goal.returns-in_default
returns-in_default c =
    let nodes = c.args.nodes.now in
    let l = tree_of nodes c.args.left in
    let r = tree_of nodes c.args.right in
    built_same nodes nodes c.args.right r (joined l r) (joined-no_left l r (no_tree nodes c.args.left c.in_default.is)) (built_before nodes c.args.right c.requires.right)

pub returns-in_default-right : goal.returns-in_default-right
returns-in_default-right c =
    let nodes = c.args.nodes.now in
    let l = tree_of nodes c.args.left in
    let r = tree_of nodes c.args.right in
    built_same nodes nodes c.args.left l (joined l r) (joined-no_right l r (no_tree nodes c.args.right c.in_default-right.is)) (built_before nodes c.args.left c.requires.left)

pub get-node-requires : goal.get-node-requires
get-node-requires c = node_of_link c.args.nodes.now c.args.right c.in-Some-right.at c.requires.right c.in-Some-right.is

pub join-requires-clause-left : goal.join-requires-clause-left
join-requires-clause-left c = IsLink-extended c.args.nodes.now c.remove_first.new.nodes c.args.left c.in_ok-rest.ensures.extends c.requires.left

pub returns : goal.returns
returns c =
    let nodes = c.args.nodes.now in
    let l = tree_of nodes c.args.left in
    let r = tree_of nodes c.args.right in
    let a = tree_of nodes c.get-node.result.left in
    let b = tree_of nodes c.get-node.result.right in
    let z = item_of c.get-node.result.entry in
    let here = ap (λ (link : Option ℕ). tree_of nodes link) c.in-Some-right.is ∙ c.get-node.ensures.tree in
    built_right_as nodes c.remove_first.new.nodes c.join.new.nodes c.args.left c.in_ok-rest.rest c.in_ok-link.link (item_of c.first_or-first.result) (without_first a z b) (joined l r)
    c.requires.left c.in_ok-rest.ensures c.in_ok-link.ensures
    (joined-both l r a z b (some_items nodes c.args.left _ c.requires.left c.in-Some.is) here ∙ ap (λ (y : Item Body). node l y (without_first a z b)) (sym c.first_or-first.ensures))
