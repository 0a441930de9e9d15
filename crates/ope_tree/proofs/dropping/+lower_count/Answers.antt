use Rattle.std.proofs.Common.{◌≡◌, ◌-◌, suc, ap, ◌∙◌, refl, sym, arith}
use Rattle.mope_base.specs.declared.body.Body.{Body}
use Rattle.tree_model.specs.Items.{Item, one_less}
use Rattle.tree_model.specs.Removal.{change_tree}
use Rattle.tree_model.proofs.Removals.{size-change_tree}
use Rattle.ope_tree.specs.Nodes.{item_of, tree_of}
use Rattle.ope_tree.proofs.Reaching.{reach}
use Rattle.ope_tree.proofs.Fitting.{fits_left, fits_right, fits_again, node-counts}
use Rattle.ope_tree.proofs.Builders.{reach-older}
use Rattle.ope_tree.proofs.LinkCases.{no_tree, node_of_link}
use Rattle.ope_tree.proofs.LowerRows.{is_read, built-none, built-left, built-right, built-here, live-none, live-left, live-right, live-here}
use Rattle.ope_tree.proofs.dropping.+lower_count.Goals as goal

pub returns-in_default-clause-built : goal.returns-in_default-clause-built
returns-in_default-clause-built t c = built-none c.args.nodes.now c.args.link c.args.rank c.in_default.is c.requires

pub returns-in_default-clause-live : goal.returns-in_default-clause-live
returns-in_default-clause-live t c = live-none (tree_of c.args.nodes.now c.args.link) c.args.rank (no_tree c.args.nodes.now c.args.link c.in_default.is)

pub get-node-requires : goal.get-node-requires
get-node-requires t c = node_of_link c.args.nodes.now c.args.link c.in-Some.at c.requires c.in-Some.is

-- ---- on the left

pub lower_count-requires : goal.lower_count-requires
lower_count-requires t c =
    let parent : reach c.args.link ≡ suc c.in-Some.at = ap reach c.in-Some.is in
    (omega (arith, parent, reach-older c.in-Some.at c.get-node.result.left c.get-node.ensures.left_older, c.decreases), c.get-node.ensures.left)

pub add_node-requires : goal.add_node-requires
add_node-requires t c =
    let nodes = c.args.nodes.now in
    let n = c.get-node.result in
    let f : Item Body → Item Body = one_less in
    fits_left nodes c.lower_count.new.nodes c.in-Some.at n c.in_ok-left.left.link n.size n.before n.entry (change_tree f (tree_of nodes n.left) c.args.rank)
    c.get-node.ensures c.in_ok-left.ensures.built (c.get-node.ensures.before_is ∙ sym (size-change_tree f (tree_of nodes n.left) c.args.rank)) refl

pub returns-then-rank-before-clause-built : goal.returns-then-rank-before-clause-built
returns-then-rank-before-clause-built t c =
    let read = is_read c.args.nodes.now c.args.link c.in-Some.at c.get-node.result c.in-Some.is c.get-node.ensures in
    built-left c.args.nodes.now c.lower_count.new.nodes c.add_node.new.nodes c.args.link c.get-node.result.left c.get-node.result.right c.in_ok-left.left.link c.in_ok-link.link (item_of c.get-node.result.entry) c.args.rank read (omega arith) c.in_ok-left.ensures.built c.in_ok-link.ensures

pub returns-then-rank-before-clause-live : goal.returns-then-rank-before-clause-live
returns-then-rank-before-clause-live t c =
    let read = is_read c.args.nodes.now c.args.link c.in-Some.at c.get-node.result c.in-Some.is c.get-node.ensures in
    live-left (tree_of c.args.nodes.now c.args.link) (tree_of c.args.nodes.now c.get-node.result.left) (item_of c.get-node.result.entry) (tree_of c.args.nodes.now c.get-node.result.right) c.args.rank c.in_ok-left.left.emptied read.tree (omega arith) c.in_ok-left.ensures.live

-- ---- on the right

pub lower_count-requires-then-before-rank : goal.lower_count-requires-then-before-rank
lower_count-requires-then-before-rank t c =
    let parent : reach c.args.link ≡ suc c.in-Some.at = ap reach c.in-Some.is in
    (omega (arith, parent, reach-older c.in-Some.at c.get-node.result.right c.get-node.ensures.right_older, c.decreases), c.get-node.ensures.right)

pub add_node-requires-then-before-rank : goal.add_node-requires-then-before-rank
add_node-requires-then-before-rank t c =
    let nodes = c.args.nodes.now in
    let n = c.get-node.result in
    let f : Item Body → Item Body = one_less in
    let k = c.args.rank - n.before - 1 in
    fits_right nodes c.lower_count-then-before-rank.new.nodes c.in-Some.at n c.in_ok-right.right.link n.size n.entry (change_tree f (tree_of nodes n.right) k)
    c.get-node.ensures c.in_ok-right.ensures.built (omega (arith, node-counts nodes c.in-Some.at n c.get-node.ensures, size-change_tree f (tree_of nodes n.right) k))

pub returns-then-before-rank-clause-built : goal.returns-then-before-rank-clause-built
returns-then-before-rank-clause-built t c =
    let read = is_read c.args.nodes.now c.args.link c.in-Some.at c.get-node.result c.in-Some.is c.get-node.ensures in
    built-right c.args.nodes.now c.lower_count-then-before-rank.new.nodes c.add_node-then-before-rank.new.nodes c.args.link c.get-node.result.left c.get-node.result.right c.in_ok-right.right.link c.in_ok-link-2.link (item_of c.get-node.result.entry) c.args.rank c.get-node.result.before read c.get-node.ensures.before_is c.if-before-rank.true c.in_ok-right.ensures.built c.in_ok-link-2.ensures

pub returns-then-before-rank-clause-live : goal.returns-then-before-rank-clause-live
returns-then-before-rank-clause-live t c =
    let read = is_read c.args.nodes.now c.args.link c.in-Some.at c.get-node.result c.in-Some.is c.get-node.ensures in
    live-right (tree_of c.args.nodes.now c.args.link) (tree_of c.args.nodes.now c.get-node.result.left) (item_of c.get-node.result.entry) (tree_of c.args.nodes.now c.get-node.result.right) c.args.rank c.get-node.result.before c.in_ok-right.right.emptied read.tree c.get-node.ensures.before_is c.if-before-rank.true c.in_ok-right.ensures.live

-- ---- here

pub add_node-requires-2 : goal.add_node-requires-2
add_node-requires-2 t c = fits_again c.args.nodes.now c.in-Some.at c.get-node.result c.fewer_rows.result c.get-node.ensures

pub returns-clause-built : goal.returns-clause-built
returns-clause-built t c =
    let read = is_read c.args.nodes.now c.args.link c.in-Some.at c.get-node.result c.in-Some.is c.get-node.ensures in
    built-here c.args.nodes.now c.add_node-2.new.nodes c.args.link c.get-node.result.left c.get-node.result.right c.in_ok-link-3.link (item_of c.get-node.result.entry) (item_of c.fewer_rows.result) c.args.rank read (omega arith) c.fewer_rows.ensures c.in_ok-link-3.ensures

pub returns-clause-live : goal.returns-clause-live
returns-clause-live t c =
    let read = is_read c.args.nodes.now c.args.link c.in-Some.at c.get-node.result c.in-Some.is c.get-node.ensures in
    live-here (tree_of c.args.nodes.now c.args.link) (tree_of c.args.nodes.now c.get-node.result.left) (item_of c.get-node.result.entry) (tree_of c.args.nodes.now c.get-node.result.right) c.args.rank c.newly_dead.result read.tree (omega arith) c.newly_dead.ensures
