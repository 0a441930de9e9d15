use Rattle.std.proofs.Common.{ℕ, Option, refl, ap, ◌∙◌, arith}
use Rattle.tree_model.specs.Trees.{size}
use Rattle.tree_model.proofs.GraftPaths.{size-node}
use Rattle.ope_tree.specs.Nodes.{tree_of, item_of}
use Rattle.ope_tree.proofs.LinkCases.{no_tree, node_of_link}
use Rattle.ope_tree.proofs.places.place_of_root.Goals as goal

pub get-requires : goal.get-requires
get-requires c = node_of_link c.args.nodes.now c.args.spot.link c.in-Some.at c.requires.is_link c.in-Some.is

pub overflow_add-result : goal.overflow_add-result
overflow_add-result c =
    let is = c.get.ensures in
    let many = ap size is.tree ∙ size-node (tree_of c.args.nodes.now c.get.result.left) (item_of c.get.result.entry) (tree_of c.args.nodes.now c.get.result.right) in
    let here = ap (λ (link : Option ℕ). size (tree_of c.args.nodes.now link)) c.in-Some.is in
    omega (arith, c.requires.few, is.before_is, many, here)

pub returns-in-None : goal.returns-in-None
returns-in-None c = (no_tree c.args.nodes.now c.args.spot.link c.in-None.is, refl)

pub returns-in-Some : goal.returns-in-Some
returns-in-Some c =
    let is = c.get.ensures in
    record {
      left = tree_of c.args.nodes.now c.get.result.left;
      item = item_of c.get.result.entry;
      right = tree_of c.args.nodes.now c.get.result.right;
      root = ap (λ (link : Option ℕ). tree_of c.args.nodes.now link) c.in-Some.is ∙ is.tree;
      rank_is = omega (arith, is.before_is);
    }
