use Rattle.std.proofs.Common.{◌≡◌, ◌-◌, ℕ, suc, Option, arith, refl, sym, ap, ◌∙◌}
use Rattle.tree_model.specs.Trees.{Tree, node, size}
use Rattle.tree_model.specs.Items.{Item}
use Rattle.mope_base.specs.declared.body.Body.{Body}
use Rattle.ope_tree.specs.Nodes.{item_of, tree_of}
use Rattle.ope_tree.proofs.Reaching.{reach}
use Rattle.ope_tree.proofs.Fitting.{fits_left, fits_right, fits_again, node-counts}
use Rattle.ope_tree.proofs.Builders.{reach-older, built_nothing, built_same, built_left_as, built_right_as}
use Rattle.ope_tree.proofs.LinkCases.{no_tree, node_of_link}
use Rattle.tree_model.specs.Removal.{change_tree}
use Rattle.tree_model.proofs.Removals.{change-left, change-here, change-right, size-change_tree}
use Rattle.ope_tree.proofs.grafting.+replace_item.Goals as goal

pub returns-in_default : goal.returns-in_default
unfolding change_tree
returns-in_default t c =
    let nodes = c.args.nodes.now in
    let none = no_tree nodes c.args.link c.in_default.is in
    built_nothing nodes (change_tree (λ _. item_of c.args.entry) (tree_of nodes c.args.link) c.args.rank) (ap (λ (u : Tree (Item Body)). change_tree (λ _. item_of c.args.entry) u c.args.rank) none)

pub get-node-requires : goal.get-node-requires
get-node-requires t c = node_of_link c.args.nodes.now c.args.link c.in-Some.at c.requires c.in-Some.is

pub replace_item-requires : goal.replace_item-requires
replace_item-requires t c =
    let parent : reach c.args.link ≡ suc c.in-Some.at = ap reach c.in-Some.is in
    let child = reach-older c.in-Some.at c.get-node.result.left c.get-node.ensures.left_older in
    (omega (arith, parent, child, c.decreases), c.get-node.ensures.left)

pub add_node-requires : goal.add_node-requires
add_node-requires t c =
    let nodes = c.args.nodes.now in
    let n = c.get-node.result in
    let f : Item Body → Item Body = (λ _. item_of c.args.entry) in
    fits_left nodes c.replace_item.new.nodes c.in-Some.at n c.in_ok-left.left n.size n.before n.entry (change_tree f (tree_of nodes n.left) c.args.rank)
    c.get-node.ensures c.in_ok-left.ensures (c.get-node.ensures.before_is ∙ sym (size-change_tree f (tree_of nodes n.left) c.args.rank)) refl

pub returns-then-rank-before : goal.returns-then-rank-before
returns-then-rank-before t c =
    let nodes = c.args.nodes.now in
    let left = c.get-node.result.left in
    let right = c.get-node.result.right in
    let l = tree_of nodes left in
    let r = tree_of nodes right in
    let x = item_of c.get-node.result.entry in
    let here = ap (λ (link : Option ℕ). tree_of nodes link) c.in-Some.is ∙ c.get-node.ensures.tree in
    let f : Item Body → Item Body = λ _. item_of c.args.entry in
    built_left_as nodes c.replace_item.new.nodes c.add_node.new.nodes c.in_ok-left.left right c.in_ok-changed.changed x (change_tree f l c.args.rank) (change_tree f (tree_of nodes c.args.link) c.args.rank)
    c.in_ok-left.ensures c.get-node.ensures.right c.in_ok-changed.ensures
    (ap (λ (u : Tree (Item Body)). change_tree f u c.args.rank) here ∙ change-left f l x r c.args.rank (omega arith))

pub replace_item-requires-then-before-rank : goal.replace_item-requires-then-before-rank
replace_item-requires-then-before-rank t c =
    let parent : reach c.args.link ≡ suc c.in-Some.at = ap reach c.in-Some.is in
    let child = reach-older c.in-Some.at c.get-node.result.right c.get-node.ensures.right_older in
    (omega (arith, parent, child, c.decreases), c.get-node.ensures.right)

pub add_node-requires-then-before-rank : goal.add_node-requires-then-before-rank
add_node-requires-then-before-rank t c =
    let nodes = c.args.nodes.now in
    let n = c.get-node.result in
    let f : Item Body → Item Body = (λ _. item_of c.args.entry) in
    let k = c.args.rank - n.before - 1 in
    fits_right nodes c.replace_item-then-before-rank.new.nodes c.in-Some.at n c.in_ok-right.right n.size n.entry (change_tree f (tree_of nodes n.right) k)
    c.get-node.ensures c.in_ok-right.ensures (omega (arith, node-counts nodes c.in-Some.at n c.get-node.ensures, size-change_tree f (tree_of nodes n.right) k))

pub returns-then-before-rank : goal.returns-then-before-rank
returns-then-before-rank t c =
    let nodes = c.args.nodes.now in
    let left = c.get-node.result.left in
    let right = c.get-node.result.right in
    let l = tree_of nodes left in
    let r = tree_of nodes right in
    let x = item_of c.get-node.result.entry in
    let here = ap (λ (link : Option ℕ). tree_of nodes link) c.in-Some.is ∙ c.get-node.ensures.tree in
    let f : Item Body → Item Body = λ _. item_of c.args.entry in
    let k = c.args.rank - c.get-node.result.before - 1 in
    let same : c.args.rank - suc (size l) ≡ k = omega arith in
    built_right_as nodes c.replace_item-then-before-rank.new.nodes c.add_node-then-before-rank.new.nodes left c.in_ok-right.right c.in_ok-changed-2.changed x (change_tree f r k) (change_tree f (tree_of nodes c.args.link) c.args.rank)
    c.get-node.ensures.left c.in_ok-right.ensures c.in_ok-changed-2.ensures
    (ap (λ (u : Tree (Item Body)). change_tree f u c.args.rank) here ∙ change-right f l x r c.args.rank (omega arith) ∙ ap (λ (n : ℕ). node l x (change_tree f r n)) same)

pub add_node-requires-2 : goal.add_node-requires-2
add_node-requires-2 t c = fits_again c.args.nodes.now c.in-Some.at c.get-node.result c.args.entry c.get-node.ensures

pub returns : goal.returns
returns t c =
    let nodes = c.args.nodes.now in
    let left = c.get-node.result.left in
    let right = c.get-node.result.right in
    let l = tree_of nodes left in
    let r = tree_of nodes right in
    let x = item_of c.get-node.result.entry in
    let here = ap (λ (link : Option ℕ). tree_of nodes link) c.in-Some.is ∙ c.get-node.ensures.tree in
    let f : Item Body → Item Body = λ _. item_of c.args.entry in
    built_same nodes c.add_node-2.new.nodes c.in_ok-changed-3.changed (node l (item_of c.args.entry) r) (change_tree f (tree_of nodes c.args.link) c.args.rank)
    (sym (ap (λ (u : Tree (Item Body)). change_tree f u c.args.rank) here ∙ change-here f l x r c.args.rank (omega arith)))
    c.in_ok-changed-3.ensures
