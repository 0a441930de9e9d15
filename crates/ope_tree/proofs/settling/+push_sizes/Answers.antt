use Rattle.std.proofs.Common.{◌≡◌, ◌-◌, ℕ, suc, Option, arith, sym, ap, ◌∙◌}
use Rattle.tree_model.specs.declared.Side.TheVariants.{Left, Right}
use Rattle.tree_model.specs.declared.Place.TheVariants.{Found}
use Rattle.tree_model.specs.Trees.{Tree, node, size, path}
use Rattle.tree_model.specs.Items.{Item}
use Rattle.mope_base.specs.declared.body.Body.{Body}
use Rattle.ope_tree.specs.Nodes.{item_of, tree_of}
use Rattle.ope_tree.proofs.Reaching.{reach}
use Rattle.ope_tree.proofs.Builders.{reach-older}
use Rattle.ope_tree.proofs.LinkCases.{no_tree, node_of_link}
use Rattle.tree_model.specs.Insertion.{child}
use Rattle.ope_tree.proofs.Putting.{path-left, path-right, path-here, sizes-none, sizes-step}
use Rattle.ope_tree.proofs.settling.+push_sizes.Goals as goal

pub returns-in_default : goal.returns-in_default
unfolding path
returns-in_default t c =
    let nodes = c.args.nodes.now in
    let whole = tree_of nodes c.args.link in
    sizes-none c.args.sizes.now.items (path whole (Found c.args.rank)) whole (ap (λ (u : Tree (Item Body)). path u (Found c.args.rank)) (no_tree nodes c.args.link c.in_default.is))

pub get-node-requires : goal.get-node-requires
get-node-requires t c = node_of_link c.args.nodes.now c.args.link c.in-Some.at c.requires c.in-Some.is

pub push_sizes-requires : goal.push_sizes-requires
push_sizes-requires t c =
    let parent : reach c.args.link ≡ suc c.in-Some.at = ap reach c.in-Some.is in
    let child = reach-older c.in-Some.at c.get-node.result.left c.get-node.ensures.left_older in
    (omega (arith, parent, child, c.decreases), c.get-node.ensures.left)

pub returns-then-rank-before : goal.returns-then-rank-before
unfolding child
returns-then-rank-before t c =
    let nodes = c.args.nodes.now in
    let whole = tree_of nodes c.args.link in
    let l = tree_of nodes c.get-node.result.left in
    let r = tree_of nodes c.get-node.result.right in
    let x = item_of c.get-node.result.entry in
    let here : whole ≡ node l x r = ap (λ (link : Option ℕ). tree_of nodes link) c.in-Some.is ∙ c.get-node.ensures.tree in
    let count = c.get-node.ensures.size_is ∙ ap (λ (link : Option ℕ). size (tree_of nodes link)) (sym c.in-Some.is) in
    sizes-step c.args.sizes.now.items c.push_sizes.new.sizes.items c.push.new.self.items c.from.result Left (path whole (Found c.args.rank)) (path l (Found c.args.rank)) whole l
    (path-left l x r whole c.args.rank here (omega arith)) (ap (λ (u : Tree (Item Body)). child Left u) here) (c.from.ensures ∙ count) c.in_ok-push_sizes.ensures c.in_ok-push.ensures.items

pub push_sizes-requires-then-before-rank : goal.push_sizes-requires-then-before-rank
push_sizes-requires-then-before-rank t c =
    let parent : reach c.args.link ≡ suc c.in-Some.at = ap reach c.in-Some.is in
    let child = reach-older c.in-Some.at c.get-node.result.right c.get-node.ensures.right_older in
    (omega (arith, parent, child, c.decreases), c.get-node.ensures.right)

pub returns-then-before-rank : goal.returns-then-before-rank
unfolding child
returns-then-before-rank t c =
    let nodes = c.args.nodes.now in
    let whole = tree_of nodes c.args.link in
    let l = tree_of nodes c.get-node.result.left in
    let r = tree_of nodes c.get-node.result.right in
    let x = item_of c.get-node.result.entry in
    let here : whole ≡ node l x r = ap (λ (link : Option ℕ). tree_of nodes link) c.in-Some.is ∙ c.get-node.ensures.tree in
    let count = c.get-node.ensures.size_is ∙ ap (λ (link : Option ℕ). size (tree_of nodes link)) (sym c.in-Some.is) in
    let m = c.args.rank - c.get-node.result.before - 1 in
    sizes-step c.args.sizes.now.items c.push_sizes-then-before-rank.new.sizes.items c.push-then-before-rank.new.self.items c.from-then-before-rank.result Right (path whole (Found c.args.rank)) (path r (Found m)) whole r
    (path-right l x r whole c.args.rank m here (omega arith)) (ap (λ (u : Tree (Item Body)). child Right u) here) (c.from-then-before-rank.ensures ∙ count) c.in_ok-push_sizes-2.ensures c.in_ok-push-2.ensures.items

pub returns : goal.returns
returns t c =
    let nodes = c.args.nodes.now in
    let whole = tree_of nodes c.args.link in
    let l = tree_of nodes c.get-node.result.left in
    let r = tree_of nodes c.get-node.result.right in
    let x = item_of c.get-node.result.entry in
    let here : whole ≡ node l x r = ap (λ (link : Option ℕ). tree_of nodes link) c.in-Some.is ∙ c.get-node.ensures.tree in
    let count = c.get-node.ensures.size_is ∙ ap (λ (link : Option ℕ). size (tree_of nodes link)) (sym c.in-Some.is) in
    sizes-none c.args.sizes.now.items (path whole (Found c.args.rank)) whole (path-here l x r whole c.args.rank here (omega arith))
