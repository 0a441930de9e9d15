use Rattle.std.proofs.Common.{◌≡◌, ℕ, suc, Option, ap, ◌∙◌, sym, arith}
use Rattle.std.proofs.lemmas.Result.{IfOk-weaker}
use Rattle.tree_model.specs.Trees.{node}
use Rattle.ope_tree.specs.Nodes.{item_of, tree_of}
use Rattle.ope_tree.proofs.Reaching.{reach}
use Rattle.ope_tree.specs.Built.{IsBuilt}
use Rattle.ope_tree.proofs.Fitting.{fits_both, node-counts}
use Rattle.ope_tree.proofs.Builders.{reach-older, built_nothing, built_same, built_over}
use Rattle.ope_tree.proofs.LinkCases.{no_tree, node_of_link}
use Rattle.ope_tree.proofs.copying.+copy_into.Goals as goal

pub returns-in_default : goal.returns-in_default
returns-in_default t c = built_nothing c.args.into.now (tree_of c.args.from.now c.args.link) (no_tree c.args.from.now c.args.link c.in_default.is)

pub get-node-requires : goal.get-node-requires
get-node-requires t c = node_of_link c.args.from.now c.args.link c.in-Some.at c.requires c.in-Some.is

pub copy_into-requires : goal.copy_into-requires
copy_into-requires t c =
    let parent : reach c.args.link ≡ suc c.in-Some.at = ap reach c.in-Some.is in
    let child = reach-older c.in-Some.at c.get-node.result.left c.get-node.ensures.left_older in
    (omega (arith, parent, child, c.decreases), c.get-node.ensures.left)

pub copy_into-requires-2 : goal.copy_into-requires-2
copy_into-requires-2 t c =
    let parent : reach c.args.link ≡ suc c.in-Some.at = ap reach c.in-Some.is in
    let child = reach-older c.in-Some.at c.get-node.result.right c.get-node.ensures.right_older in
    (omega (arith, parent, child, c.decreases), c.get-node.ensures.right)

pub add_node-requires : goal.add_node-requires
add_node-requires t c =
    let from = c.args.from.now in
    let n = c.get-node.result in
    fits_both c.args.into.now c.copy_into.new.into c.copy_into-2.new.into c.in_ok-left.left c.in_ok-right.right n.size n.before n.entry (tree_of from n.left) (tree_of from n.right)
    c.in_ok-left.ensures c.in_ok-right.ensures c.get-node.ensures.before_is (node-counts from c.in-Some.at n c.get-node.ensures)

pub returns : goal.returns
returns t c =
    let from = c.args.from.now in
    let start = c.args.into.now in
    let middle = c.copy_into-2.new.into in
    let after = c.add_node.new.nodes in
    let entry = item_of c.get-node.result.entry in
    let left = tree_of from c.get-node.result.left in
    let right = tree_of from c.get-node.result.right in
    let here : node left entry right ≡ tree_of from c.args.link = sym (ap (λ (link : Option ℕ). tree_of from link) c.in-Some.is ∙ c.get-node.ensures.tree) in
    IfOk-weaker c.add_node.result
    (λ (link : Option ℕ). IsBuilt middle after link (node (tree_of middle c.in_ok-left.left) entry (tree_of middle c.in_ok-right.right)))
    (λ (link : Option ℕ). IsBuilt start after link (tree_of from c.args.link))
    (λ (link : Option ℕ) (built : IsBuilt middle after link (node (tree_of middle c.in_ok-left.left) entry (tree_of middle c.in_ok-right.right))).
    built_same start after link (node left entry right) (tree_of from c.args.link) here
    (built_over start c.copy_into.new.into middle after c.in_ok-left.left c.in_ok-right.right link entry left right c.in_ok-left.ensures c.in_ok-right.ensures built))
    c.add_node.ensures
