use Rattle.std.proofs.Common.{◌≡◌, ℕ, suc, Option, arith, sym, ap, ◌∙◌}
use Rattle.tree_model.specs.Trees.{Tree}
use Rattle.tree_model.specs.Items.{Item}
use Rattle.mope_base.specs.declared.body.Body.{Body}
use Rattle.ope_tree.specs.Nodes.{item_of, tree_of}
use Rattle.ope_tree.proofs.Reaching.{reach}
use Rattle.ope_tree.proofs.Builders.{reach-older}
use Rattle.ope_tree.proofs.LinkCases.{no_tree, node_of_link}
use Rattle.tree_model.specs.Removal.{first_or}
use Rattle.ope_tree.proofs.removing.+first_or.Goals as goal

pub returns-in_default : goal.returns-in_default
unfolding first_or
returns-in_default t c = sym (ap (λ (u : Tree (Item Body)). first_or (item_of c.args.otherwise) u) (no_tree c.args.nodes.now c.args.link c.in_default.is))

pub get-node-requires : goal.get-node-requires
get-node-requires t c = node_of_link c.args.nodes.now c.args.link c.in-Some.at c.requires c.in-Some.is

pub first_or-requires : goal.first_or-requires
first_or-requires t c =
    let parent : reach c.args.link ≡ suc c.in-Some.at = ap reach c.in-Some.is in
    let lower = reach-older c.in-Some.at c.get-node.result.left c.get-node.ensures.left_older in
    (omega (arith, parent, lower, c.decreases), c.get-node.ensures.left)

pub returns : goal.returns
unfolding first_or
returns t c =
    let nodes = c.args.nodes.now in
    let here = ap (λ (link : Option ℕ). tree_of nodes link) c.in-Some.is ∙ c.get-node.ensures.tree in
    c.first_or.ensures ∙ sym (ap (λ (u : Tree (Item Body)). first_or (item_of c.args.otherwise) u) here)
