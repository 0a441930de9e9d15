use Rattle.std.proofs.Common.{◌≡◌, ◌-◌, ◌++◌, [], ◌∷◌, ℕ, suc, Option, List, arith, sym, ap, ◌∙◌}
use Rattle.tree_model.specs.declared.Side.{Side}
use Rattle.tree_model.specs.declared.Side.TheVariants.{Right}
use Rattle.tree_model.specs.Trees.{Tree, height, size}
use Rattle.tree_model.specs.Items.{Item}
use Rattle.mope_base.specs.declared.body.Body.{Body}
use Rattle.path_code.specs.Ways.{way}
use Rattle.ope_tree.specs.Nodes.{item_of, tree_of}
use Rattle.ope_tree.proofs.Reaching.{reach}
use Rattle.ope_tree.proofs.Builders.{reach-older}
use Rattle.ope_tree.proofs.LinkCases.{no_tree, node_of_link}
use Rattle.code_changes.specs.Removal.{removal_moved}
use Rattle.code_changes.proofs.Shifted.{moved-left, moved-here, moved-right}
use Rattle.ope_tree.proofs.MovedCodes.{removal-leaf}
use Rattle.ope_tree.proofs.moving.+removal_moved.Goals as goal

pub returns-in_default : goal.returns-in_default
returns-in_default t c = c.new.ensures.items ∙ removal-leaf (way c.args.path) (tree_of c.args.nodes.now c.args.link) c.args.rank (no_tree c.args.nodes.now c.args.link c.in_default.is)

pub get-node-requires : goal.get-node-requires
get-node-requires t c = node_of_link c.args.nodes.now c.args.link c.in-Some.at c.requires.link c.in-Some.is

pub child-requires : goal.child-requires
unfolding height
child-requires t c =
    let here = ap (λ (link : Option ℕ). tree_of c.args.nodes.now link) c.in-Some.is ∙ c.get-node.ensures.tree in
    omega (arith, ap (λ (u : Tree (Item Body)). height u) here, c.requires.short)

pub removal_moved-requires : goal.removal_moved-requires
unfolding height
removal_moved-requires t c =
    let here = ap (λ (link : Option ℕ). tree_of c.args.nodes.now link) c.in-Some.is ∙ c.get-node.ensures.tree in
    let parent : reach c.args.link ≡ suc c.in-Some.at = ap reach c.in-Some.is in
    let lower = reach-older c.in-Some.at c.get-node.result.left c.get-node.ensures.left_older in
    (omega (arith, parent, lower, c.decreases), (c.get-node.ensures.left, omega (arith, ap (λ (u : Tree (Item Body)). height u) here, c.requires.short, c.child.ensures.len)))

pub child-right-requires : goal.child-right-requires
unfolding height
child-right-requires t c =
    let here = ap (λ (link : Option ℕ). tree_of c.args.nodes.now link) c.in-Some.is ∙ c.get-node.ensures.tree in
    omega (arith, ap (λ (u : Tree (Item Body)). height u) here, c.requires.short)

pub removal_moved-requires-then-before-rank : goal.removal_moved-requires-then-before-rank
unfolding height
removal_moved-requires-then-before-rank t c =
    let here = ap (λ (link : Option ℕ). tree_of c.args.nodes.now link) c.in-Some.is ∙ c.get-node.ensures.tree in
    let parent : reach c.args.link ≡ suc c.in-Some.at = ap reach c.in-Some.is in
    let lower = reach-older c.in-Some.at c.get-node.result.right c.get-node.ensures.right_older in
    (omega (arith, parent, lower, c.decreases), (c.get-node.ensures.right, omega (arith, ap (λ (u : Tree (Item Body)). height u) here, c.requires.short, c.child-right.ensures.len)))

pub joined_moved-requires-clause-short_left : goal.joined_moved-requires-clause-short_left
unfolding height
joined_moved-requires-clause-short_left t c =
    let here = ap (λ (link : Option ℕ). tree_of c.args.nodes.now link) c.in-Some.is ∙ c.get-node.ensures.tree in
    omega (arith, ap (λ (u : Tree (Item Body)). height u) here, c.requires.short)

pub joined_moved-requires-clause-short_right : goal.joined_moved-requires-clause-short_right
unfolding height
joined_moved-requires-clause-short_right t c =
    let here = ap (λ (link : Option ℕ). tree_of c.args.nodes.now link) c.in-Some.is ∙ c.get-node.ensures.tree in
    omega (arith, ap (λ (u : Tree (Item Body)). height u) here, c.requires.short)

pub returns-then-rank-before : goal.returns-then-rank-before
returns-then-rank-before t c =
    let nodes = c.args.nodes.now in
    let w = way c.args.path in
    let l = tree_of nodes c.get-node.result.left in
    let r = tree_of nodes c.get-node.result.right in
    let x = item_of c.get-node.result.entry in
    let here = ap (λ (link : Option ℕ). tree_of nodes link) c.in-Some.is ∙ c.get-node.ensures.tree in
    c.in_ok-moved.ensures
    ∙ ap (λ (v : List Side). removal_moved v l c.args.rank) c.child.ensures.way
    ∙ sym (ap (λ (u : Tree (Item Body)). removal_moved w u c.args.rank) here ∙ moved-left w l x r c.args.rank (omega arith))

pub returns-then-before-rank : goal.returns-then-before-rank
returns-then-before-rank t c =
    let nodes = c.args.nodes.now in
    let w = way c.args.path in
    let l = tree_of nodes c.get-node.result.left in
    let r = tree_of nodes c.get-node.result.right in
    let x = item_of c.get-node.result.entry in
    let here = ap (λ (link : Option ℕ). tree_of nodes link) c.in-Some.is ∙ c.get-node.ensures.tree in
    let k = c.args.rank - c.get-node.result.before - 1 in
    let same : k ≡ c.args.rank - suc (size l) = omega (arith, c.get-node.ensures.before_is) in
    c.in_ok-moved-2.ensures
    ∙ ap (λ (v : List Side). removal_moved v r k) c.child-right.ensures.way
    ∙ ap (λ (n : ℕ). removal_moved (w ++ Right ∷ []) r n) same
    ∙ sym (ap (λ (u : Tree (Item Body)). removal_moved w u c.args.rank) here ∙ moved-right w l x r c.args.rank (omega arith))

pub returns : goal.returns
returns t c =
    let nodes = c.args.nodes.now in
    let w = way c.args.path in
    let l = tree_of nodes c.get-node.result.left in
    let r = tree_of nodes c.get-node.result.right in
    let x = item_of c.get-node.result.entry in
    let here = ap (λ (link : Option ℕ). tree_of nodes link) c.in-Some.is ∙ c.get-node.ensures.tree in
    c.in_ok-moved-3.ensures
    ∙ sym (ap (λ (u : Tree (Item Body)). removal_moved w u c.args.rank) here ∙ moved-here w l x r c.args.rank (omega arith))
