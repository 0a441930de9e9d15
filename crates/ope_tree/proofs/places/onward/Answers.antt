use Rattle.std.proofs.Common.{refl, ap, ◌∙◌, arith}
use Rattle.tree_model.specs.Trees.{size}
use Rattle.tree_model.specs.Insertion.{child}
use Rattle.tree_model.specs.Parts.{beside}
use Rattle.tree_model.proofs.GraftPaths.{size-node}
use Rattle.ope_tree.specs.Nodes.{tree_of, item_of}
use Rattle.ope_tree.proofs.places.onward.Goals as goal

pub overflow_add-result : goal.overflow_add-result
overflow_add-result c =
    let is = c.get-node.ensures in
    let many = ap size is.tree ∙ size-node (tree_of c.args.nodes.now c.get-node.result.left) (item_of c.get-node.result.entry) (tree_of c.args.nodes.now c.get-node.result.right) in
    omega (arith, c.requires.few, is.before_is, many)

pub overflow_add-result-in-Right : goal.overflow_add-result-in-Right
overflow_add-result-in-Right c =
    let is = c.get-node.ensures in
    let many = ap size is.tree ∙ size-node (tree_of c.args.nodes.now c.get-node.result.left) (item_of c.get-node.result.entry) (tree_of c.args.nodes.now c.get-node.result.right) in
    omega (arith, c.requires.few, is.before_is, many)

pub returns-in-Left : goal.returns-in-Left
unfolding child beside
returns-in-Left c =
    let is = c.get-node.ensures in
    let many = ap size is.tree ∙ size-node (tree_of c.args.nodes.now c.get-node.result.left) (item_of c.get-node.result.entry) (tree_of c.args.nodes.now c.get-node.result.right) in
    record {
      is_node = omega (arith, many);
      is_link = is.left;
      names = rw (is.tree, c.in-Left.is) refl;
      called = rw (is.names, c.in-Left.is) refl;
      count_is = rw (is.tree, c.in-Left.is) (omega arith);
    }

pub returns-in-Right : goal.returns-in-Right
unfolding child beside
returns-in-Right c =
    let is = c.get-node.ensures in
    let many = ap size is.tree ∙ size-node (tree_of c.args.nodes.now c.get-node.result.left) (item_of c.get-node.result.entry) (tree_of c.args.nodes.now c.get-node.result.right) in
    record {
      is_node = omega (arith, many);
      is_link = is.right;
      names = rw (is.tree, c.in-Right.is) refl;
      called = rw (is.names, c.in-Right.is) refl;
      count_is = rw (is.tree, c.in-Right.is) (omega (arith, is.before_is));
    }
