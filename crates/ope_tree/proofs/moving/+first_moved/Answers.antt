use Rattle.std.proofs.Common.{◌≡◌, ℕ, suc, Option, List, arith, ap, ◌∙◌}
use Rattle.tree_model.specs.declared.Side.{Side}
use Rattle.tree_model.specs.Trees.{Tree, height}
use Rattle.tree_model.specs.Items.{Item}
use Rattle.mope_base.specs.declared.body.Body.{Body}
use Rattle.path_code.specs.Ways.{way}
use Rattle.ope_tree.specs.Nodes.{item_of, tree_of}
use Rattle.ope_tree.proofs.Reaching.{reach}
use Rattle.ope_tree.proofs.Builders.{reach-older}
use Rattle.ope_tree.proofs.LinkCases.{no_tree, node_of_link}
use Rattle.code_changes.specs.Removal.{first_moved}
use Rattle.ope_tree.proofs.MovedCodes.{first-here, first-lower}
use Rattle.ope_tree.proofs.moving.+first_moved.Goals as goal

pub returns-in_default : goal.returns-in_default
unfolding first_moved
returns-in_default t c =
    let nodes = c.args.nodes.now in
    c.in_ok-moved.ensures ∙ first-here (way c.args.to) (way c.args.path) (tree_of nodes c.args.left) (tree_of nodes c.args.right) (no_tree nodes c.args.left c.in_default.is)

pub get-node-requires : goal.get-node-requires
get-node-requires t c = node_of_link c.args.nodes.now c.args.left c.in-Some.at c.requires.left c.in-Some.is

pub first_moved-requires : goal.first_moved-requires
unfolding height
first_moved-requires t c =
    let nodes = c.args.nodes.now in
    let here = ap (λ (u : Tree (Item Body)). height u) (ap (λ (link : Option ℕ). tree_of nodes link) c.in-Some.is ∙ c.get-node.ensures.tree) in
    let parent : reach c.args.left ≡ suc c.in-Some.at = ap reach c.in-Some.is in
    let lower = reach-older c.in-Some.at c.get-node.result.left c.get-node.ensures.left_older in
    (omega (arith, parent, lower, c.decreases), (c.get-node.ensures.left, (c.get-node.ensures.right, (omega (arith, here, c.requires.short_left, c.child.ensures.len), (omega (arith, here, c.requires.short_left, c.child.ensures.len), omega (arith, c.requires.above, c.child.ensures.len))))))

pub returns : goal.returns
returns t c =
    let nodes = c.args.nodes.now in
    let here = ap (λ (link : Option ℕ). tree_of nodes link) c.in-Some.is ∙ c.get-node.ensures.tree in
    let a = tree_of nodes c.get-node.result.left in
    let b = tree_of nodes c.get-node.result.right in
    c.in_ok-moved-2.ensures
    ∙ ap (λ (w : List Side). first_moved (way c.args.to) w a b) c.child.ensures.way
    ∙ first-lower (way c.args.to) (way c.args.path) (tree_of nodes c.args.left) a (item_of c.get-node.result.entry) b (tree_of nodes c.args.right) here
