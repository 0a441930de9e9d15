use Rattle.std.proofs.Common.{ℕ, Option, List, arith, ap, ◌∙◌}
use Rattle.tree_model.specs.declared.Side.{Side}
use Rattle.tree_model.specs.Trees.{Tree, height}
use Rattle.tree_model.specs.Items.{Item}
use Rattle.mope_base.specs.declared.body.Body.{Body}
use Rattle.path_code.specs.Ways.{way}
use Rattle.ope_tree.specs.Nodes.{item_of, tree_of}
use Rattle.ope_tree.proofs.LinkCases.{no_tree, node_of_link, some_items}
use Rattle.code_changes.specs.Changes.{differing}
use Rattle.code_changes.specs.Removal.{codes_along, moved_up, first_moved}
use Rattle.ope_tree.proofs.MovedCodes.{moved-no_left, moved-no_right, moved-both}
use Rattle.ope_tree.proofs.moving.joined_moved.Goals as goal

pub returns-in_default : goal.returns-in_default
unfolding moved_up
returns-in_default c =
    let nodes = c.args.nodes.now in
    let w = way c.args.path in
    let l = tree_of nodes c.args.left in
    let r = tree_of nodes c.args.right in
    c.in_ok-moved.ensures ∙ ap (λ (v : List Side). differing (codes_along v r) (codes_along w r)) c.child.ensures.way ∙ moved-no_left w l r (no_tree nodes c.args.left c.in_default.is)

pub returns-in_default-right : goal.returns-in_default-right
unfolding moved_up
returns-in_default-right c =
    let nodes = c.args.nodes.now in
    let w = way c.args.path in
    let l = tree_of nodes c.args.left in
    let r = tree_of nodes c.args.right in
    c.in_ok-moved-2.ensures ∙ ap (λ (v : List Side). differing (codes_along v l) (codes_along w l)) c.child-in_default-right.ensures.way ∙ moved-no_right w l r (no_tree nodes c.args.right c.in_default-right.is)

pub get-node-requires : goal.get-node-requires
get-node-requires c = node_of_link c.args.nodes.now c.args.right c.in-Some-right.at c.requires.right c.in-Some-right.is

pub first_moved-requires-clause-short_left : goal.first_moved-requires-clause-short_left
unfolding height
first_moved-requires-clause-short_left c =
    let nodes = c.args.nodes.now in
    let here = ap (λ (u : Tree (Item Body)). height u) (ap (λ (link : Option ℕ). tree_of nodes link) c.in-Some-right.is ∙ c.get-node.ensures.tree) in
    omega (arith, here, c.requires.short_right, c.child-2.ensures.len)

pub first_moved-requires-clause-short_right : goal.first_moved-requires-clause-short_right
unfolding height
first_moved-requires-clause-short_right c =
    let nodes = c.args.nodes.now in
    let here = ap (λ (u : Tree (Item Body)). height u) (ap (λ (link : Option ℕ). tree_of nodes link) c.in-Some-right.is ∙ c.get-node.ensures.tree) in
    omega (arith, here, c.requires.short_right, c.child-2.ensures.len)

pub returns : goal.returns
returns c =
    let nodes = c.args.nodes.now in
    let w = way c.args.path in
    let here = ap (λ (link : Option ℕ). tree_of nodes link) c.in-Some-right.is ∙ c.get-node.ensures.tree in
    let a = tree_of nodes c.get-node.result.left in
    let b = tree_of nodes c.get-node.result.right in
    c.in_ok-moved-3.ensures
    ∙ ap (λ (v : List Side). first_moved w v a b) c.child-2.ensures.way
    ∙ moved-both w (tree_of nodes c.args.left) (tree_of nodes c.args.right) a (item_of c.get-node.result.entry) b (some_items nodes c.args.left _ c.requires.left c.in-Some.is) here
