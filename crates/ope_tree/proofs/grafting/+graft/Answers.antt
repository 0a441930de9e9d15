use Rattle.std.proofs.Common.{◌≡◌, ◌+◌, ◌-◌, ◌++◌, [], ◌∷◌, ℕ, suc, List, Option, None, arith, sym, subst, ap, ◌∙◌}
use Rattle.tree_model.specs.Trees.{Tree, leaf, node, size, height, path, past}
use Rattle.tree_model.specs.Items.{Item}
use Rattle.mope_base.specs.declared.body.Body.{Body}
use Rattle.ope_tree.specs.Nodes.{item_of, tree_of}
use Rattle.ope_tree.proofs.Reaching.{reach}
use Rattle.ope_tree.proofs.Fitting.{fits_left, fits_right, node-counts}
use Rattle.tree_model.proofs.Depths.{size-graft}
use Rattle.ope_tree.proofs.Builders.{reach-older, built_same, built_left_as, built_right_as}
use Rattle.ope_tree.proofs.LinkCases.{no_tree, node_of_link}
use Rattle.tree_model.specs.Insertion.{graft}
use Rattle.tree_model.proofs.Grafts.{graft-leaf, graft-left, graft-right}
use Rattle.ope_tree.proofs.Builders.{tree_by-none}
use Rattle.tree_model.specs.declared.Side.{Side}
use Rattle.tree_model.specs.declared.Side.TheVariants.{Right}
use Rattle.tree_model.specs.declared.Place.TheVariants.{Gap}
use Rattle.tree_model.specs.Places.{number}
use Rattle.tree_model.proofs.Ways.{turn_at-left, turn_at-right}
use Rattle.path_code.specs.Ways.{way}
use Rattle.ope_tree.proofs.Walking.{way-none, way-left, way-right}
use Rattle.ope_tree.specs.Built.{IsBuilt}
use Rattle.ope_tree.specs.declared.grafting.Grafted.{Grafted}
use Rattle.ope_tree.proofs.grafting.+graft.Goals as goal

pub returns-in_default-clause-built : goal.returns-in_default-clause-built
returns-in_default-clause-built t c =
    let nodes = c.args.nodes.now in
    let e = item_of c.args.entry in
    let none : tree_of nodes None ≡ leaf = tree_by-none (λ at n. item_of n.entry) nodes in
    let P : Grafted → Type 0 = λ grafted. IsBuilt nodes c.join.new.nodes grafted.link (graft c.args.rank e (tree_of nodes c.args.link)) in
    subst P (sym c.at_path.ensures) (
    built_same nodes c.join.new.nodes c.in_ok-link.link (node (tree_of nodes None) e (tree_of nodes None)) (graft c.args.rank e (tree_of nodes c.args.link))
    (ap (λ (u : Tree (Item Body)). node u e u) none ∙ sym (ap (λ (u : Tree (Item Body)). graft c.args.rank e u) (no_tree nodes c.args.link c.in_default.is) ∙ graft-leaf c.args.rank e))
    c.in_ok-link.ensures)

pub get-node-requires : goal.get-node-requires
get-node-requires t c = node_of_link c.args.nodes.now c.args.link c.in-Some.at c.requires.link c.in-Some.is

pub child-path-requires : goal.child-path-requires
unfolding height
child-path-requires t c =
    let here = ap (λ (link : Option ℕ). tree_of c.args.nodes.now link) c.in-Some.is ∙ c.get-node.ensures.tree in
    omega (arith, ap (λ (u : Tree (Item Body)). height u) here, c.requires.short)

pub graft-requires : goal.graft-requires
unfolding height
graft-requires t c =
    let here = ap (λ (link : Option ℕ). tree_of c.args.nodes.now link) c.in-Some.is ∙ c.get-node.ensures.tree in
    let parent : reach c.args.link ≡ suc c.in-Some.at = ap reach c.in-Some.is in
    let child = reach-older c.in-Some.at c.get-node.result.left c.get-node.ensures.left_older in
    (omega (arith, parent, child, c.decreases), (c.get-node.ensures.left, omega (arith, ap (λ (u : Tree (Item Body)). height u) here, c.requires.short, c.child-path.ensures.len)))

pub overflow_add-more : goal.overflow_add-more
overflow_add-more t c = omega (arith, node-counts c.args.nodes.now c.in-Some.at c.get-node.result c.get-node.ensures)

pub add_node-requires : goal.add_node-requires
add_node-requires t c =
    let nodes = c.args.nodes.now in
    let n = c.get-node.result in
    let l = graft c.args.rank (item_of c.args.entry) (tree_of nodes n.left) in
    fits_left nodes c.graft.new.nodes c.in-Some.at n c.in_ok-left.left.link c.in-Some-checked_add.size (n.before + 1) n.entry l
    c.get-node.ensures c.in_ok-left.ensures.built (omega (arith, size-graft c.args.rank (item_of c.args.entry) (tree_of nodes n.left), c.get-node.ensures.before_is)) (omega arith)

pub returns-then-rank-before-clause-built : goal.returns-then-rank-before-clause-built
returns-then-rank-before-clause-built t c =
    let nodes = c.args.nodes.now in
    let left = c.get-node.result.left in
    let right = c.get-node.result.right in
    let l = tree_of nodes left in
    let r = tree_of nodes right in
    let x = item_of c.get-node.result.entry in
    let here = ap (λ (link : Option ℕ). tree_of nodes link) c.in-Some.is ∙ c.get-node.ensures.tree in
    let e = item_of c.args.entry in
    let P : Grafted → Type 0 = λ grafted. IsBuilt nodes c.add_node.new.nodes grafted.link (graft c.args.rank e (tree_of nodes c.args.link)) in
    subst P (sym c.at_path-then-rank-before.ensures) (
    built_left_as nodes c.graft.new.nodes c.add_node.new.nodes c.in_ok-left.left.link right c.in_ok-link-2.link x (graft c.args.rank e l) (graft c.args.rank e (tree_of nodes c.args.link))
    c.in_ok-left.ensures.built c.get-node.ensures.right c.in_ok-link-2.ensures
    (ap (λ (u : Tree (Item Body)). graft c.args.rank e u) here ∙ graft-left c.args.rank e x l r (omega arith)))

pub child-path-requires-2 : goal.child-path-requires-2
unfolding height
child-path-requires-2 t c =
    let here = ap (λ (link : Option ℕ). tree_of c.args.nodes.now link) c.in-Some.is ∙ c.get-node.ensures.tree in
    omega (arith, ap (λ (u : Tree (Item Body)). height u) here, c.requires.short)

pub graft-requires-2 : goal.graft-requires-2
unfolding height
graft-requires-2 t c =
    let here = ap (λ (link : Option ℕ). tree_of c.args.nodes.now link) c.in-Some.is ∙ c.get-node.ensures.tree in
    let parent : reach c.args.link ≡ suc c.in-Some.at = ap reach c.in-Some.is in
    let child = reach-older c.in-Some.at c.get-node.result.right c.get-node.ensures.right_older in
    (omega (arith, parent, child, c.decreases), (c.get-node.ensures.right, omega (arith, ap (λ (u : Tree (Item Body)). height u) here, c.requires.short, c.child-path-2.ensures.len)))

pub add_node-requires-2 : goal.add_node-requires-2
add_node-requires-2 t c =
    let nodes = c.args.nodes.now in
    let n = c.get-node.result in
    let k = c.args.rank - n.before - 1 in
    let r = graft k (item_of c.args.entry) (tree_of nodes n.right) in
    fits_right nodes c.graft-2.new.nodes c.in-Some.at n c.in_ok-right.right.link c.in-Some-checked_add.size n.entry r
    c.get-node.ensures c.in_ok-right.ensures.built (omega (arith, node-counts nodes c.in-Some.at n c.get-node.ensures, size-graft k (item_of c.args.entry) (tree_of nodes n.right)))

pub returns-clause-built : goal.returns-clause-built
returns-clause-built t c =
    let nodes = c.args.nodes.now in
    let left = c.get-node.result.left in
    let right = c.get-node.result.right in
    let l = tree_of nodes left in
    let r = tree_of nodes right in
    let x = item_of c.get-node.result.entry in
    let here = ap (λ (link : Option ℕ). tree_of nodes link) c.in-Some.is ∙ c.get-node.ensures.tree in
    let e = item_of c.args.entry in
    let k = c.args.rank - c.get-node.result.before - 1 in
    let same : c.args.rank - suc (size l) ≡ k = omega arith in
    let P : Grafted → Type 0 = λ grafted. IsBuilt nodes c.add_node-2.new.nodes grafted.link (graft c.args.rank e (tree_of nodes c.args.link)) in
    subst P (sym c.at_path-2.ensures) (
    built_right_as nodes c.graft-2.new.nodes c.add_node-2.new.nodes left c.in_ok-right.right.link c.in_ok-link-3.link x (graft k e r) (graft c.args.rank e (tree_of nodes c.args.link))
    c.get-node.ensures.left c.in_ok-right.ensures.built c.in_ok-link-3.ensures
    (ap (λ (u : Tree (Item Body)). graft c.args.rank e u) here ∙ graft-right c.args.rank e x l r (omega arith) ∙ ap (λ (n : ℕ). node l x (graft n e r)) same))

-- ---- the path

pub returns-in_default-clause-path : goal.returns-in_default-clause-path
returns-in_default-clause-path t c =
    let Q : Grafted → Type 0 = λ grafted. way grafted.path ≡ way c.args.above ++ path (tree_of c.args.nodes.now c.args.link) (Gap c.args.rank) in
    subst Q (sym c.at_path.ensures) (
    way-none (way c.args.above) (tree_of c.args.nodes.now c.args.link) (Gap c.args.rank) (no_tree c.args.nodes.now c.args.link c.in_default.is))

pub returns-then-rank-before-clause-path : goal.returns-then-rank-before-clause-path
unfolding number
returns-then-rank-before-clause-path t c =
    let nodes = c.args.nodes.now in
    let n = c.get-node.result in
    let l = tree_of nodes n.left in
    let here = ap (λ (link : Option ℕ). tree_of nodes link) c.in-Some.is ∙ c.get-node.ensures.tree in
    let turn = turn_at-left (size l) (Gap c.args.rank) (omega arith) in
    let Q : Grafted → Type 0 = λ grafted. way grafted.path ≡ way c.args.above ++ path (tree_of c.args.nodes.now c.args.link) (Gap c.args.rank) in
    subst Q (sym c.at_path-then-rank-before.ensures) (
    way-left (way c.args.above) (way c.in_ok-left.left.path) l (item_of n.entry) (tree_of nodes n.right) (tree_of nodes c.args.link) (Gap c.args.rank) here turn
    (c.in_ok-left.ensures.path ∙ ap (λ (w : List Side). w ++ path l (Gap c.args.rank)) c.child-path.ensures.way))

pub returns-clause-path : goal.returns-clause-path
unfolding number past
returns-clause-path t c =
    let nodes = c.args.nodes.now in
    let n = c.get-node.result in
    let l = tree_of nodes n.left in
    let r = tree_of nodes n.right in
    let here = ap (λ (link : Option ℕ). tree_of nodes link) c.in-Some.is ∙ c.get-node.ensures.tree in
    let turn = turn_at-right (size l) (Gap c.args.rank) (omega arith) in
    let next : c.args.rank - n.before - 1 ≡ c.args.rank - suc (size l) = omega arith in
    let Q : Grafted → Type 0 = λ grafted. way grafted.path ≡ way c.args.above ++ path (tree_of c.args.nodes.now c.args.link) (Gap c.args.rank) in
    subst Q (sym c.at_path-2.ensures) (
    way-right (way c.args.above) (way c.in_ok-right.right.path) l (item_of n.entry) r (tree_of nodes c.args.link) (Gap c.args.rank) here turn
    (c.in_ok-right.ensures.path
    ∙ ap (λ (w : List Side). w ++ path r (Gap (c.args.rank - n.before - 1))) c.child-path-2.ensures.way
    ∙ ap (λ (k : ℕ). (way c.args.above ++ Right ∷ []) ++ path r (Gap k)) next))
