use Rattle.std.proofs.Common.{◌≡◌, ◌+◌, ◌++◌, [], ◌∷◌, ℕ, suc, Option, Some, List, arith, sym, ap, ◌∙◌}
use Rattle.tree_model.specs.declared.Side.{Side}
use Rattle.tree_model.specs.declared.Side.TheVariants.{Right}
use Rattle.tree_model.specs.declared.Place.{Place}
use Rattle.tree_model.specs.Trees.{Tree, height, size, turn_at, past, path}
use Rattle.tree_model.specs.Items.{Item}
use Rattle.path_code.specs.Ways.{way}
use Rattle.mope_base.specs.declared.body.Body.{Body}
use Rattle.ope_tree.specs.Nodes.{item_of, tree_of}
use Rattle.ope_tree.proofs.Reaching.{reach}
use Rattle.ope_tree.proofs.Builders.{reach-older}
use Rattle.ope_tree.proofs.LinkCases.{no_tree, node_of_link}
use Rattle.ope_tree.proofs.Walking.{way-none, way-here, way-left, way-right}
use Rattle.ope_tree.proofs.ways.+path_to.Goals as goal

pub returns-in_default : goal.returns-in_default
returns-in_default t c = way-none (way c.args.above) (tree_of c.args.nodes.now c.args.link) c.args.place (no_tree c.args.nodes.now c.args.link c.in_default.is)

pub get-node-requires : goal.get-node-requires
get-node-requires t c = node_of_link c.args.nodes.now c.args.link c.in-Some.at c.requires.link c.in-Some.is

pub child-requires : goal.child-requires
unfolding height
child-requires t c =
    let here = ap (λ (link : Option ℕ). tree_of c.args.nodes.now link) c.in-Some.is ∙ c.get-node.ensures.tree in
    omega (arith, ap (λ (u : Tree (Item Body)). height u) here, c.requires.short)

pub path_to-requires : goal.path_to-requires
unfolding height
path_to-requires t c =
    let here = ap (λ (link : Option ℕ). tree_of c.args.nodes.now link) c.in-Some.is ∙ c.get-node.ensures.tree in
    let parent : reach c.args.link ≡ suc c.in-Some.at = ap reach c.in-Some.is in
    let child = reach-older c.in-Some.at c.get-node.result.left c.get-node.ensures.left_older in
    (omega (arith, parent, child, c.decreases), (c.get-node.ensures.left, omega (arith, ap (λ (u : Tree (Item Body)). height u) here, c.requires.short, c.child.ensures.len)))

pub child-requires-in-Some-Right : goal.child-requires-in-Some-Right
unfolding height
child-requires-in-Some-Right t c =
    let here = ap (λ (link : Option ℕ). tree_of c.args.nodes.now link) c.in-Some.is ∙ c.get-node.ensures.tree in
    omega (arith, ap (λ (u : Tree (Item Body)). height u) here, c.requires.short)

pub path_to-requires-in-Some-Right : goal.path_to-requires-in-Some-Right
unfolding height
path_to-requires-in-Some-Right t c =
    let here = ap (λ (link : Option ℕ). tree_of c.args.nodes.now link) c.in-Some.is ∙ c.get-node.ensures.tree in
    let parent : reach c.args.link ≡ suc c.in-Some.at = ap reach c.in-Some.is in
    let child = reach-older c.in-Some.at c.get-node.result.right c.get-node.ensures.right_older in
    (omega (arith, parent, child, c.decreases), (c.get-node.ensures.right, omega (arith, ap (λ (u : Tree (Item Body)). height u) here, c.requires.short, c.child-in-Some-Right.ensures.len)))

pub returns-in-None : goal.returns-in-None
returns-in-None t c =
    let nodes = c.args.nodes.now in
    let here = ap (λ (link : Option ℕ). tree_of nodes link) c.in-Some.is ∙ c.get-node.ensures.tree in
    let turn = ap (λ (n : ℕ). turn_at n c.args.place) (sym c.get-node.ensures.before_is) ∙ sym c.turn.ensures ∙ c.in-None.is in
    way-here (way c.args.above) (tree_of nodes c.get-node.result.left) (item_of c.get-node.result.entry) (tree_of nodes c.get-node.result.right) (tree_of nodes c.args.link) c.args.place here turn

pub returns-in-Some-Left : goal.returns-in-Some-Left
returns-in-Some-Left t c =
    let nodes = c.args.nodes.now in
    let l = tree_of nodes c.get-node.result.left in
    let here = ap (λ (link : Option ℕ). tree_of nodes link) c.in-Some.is ∙ c.get-node.ensures.tree in
    let turn = ap (λ (n : ℕ). turn_at n c.args.place) (sym c.get-node.ensures.before_is) ∙ sym c.turn.ensures ∙ c.in-Some-Left.is ∙ ap Some c.in-Some-Left.field-0-is in
    way-left (way c.args.above) (way c.path_to.result) l (item_of c.get-node.result.entry) (tree_of nodes c.get-node.result.right) (tree_of nodes c.args.link) c.args.place here turn
    (c.path_to.ensures ∙ ap (λ (w : List Side). w ++ path l c.args.place) c.child.ensures.way)

pub returns-in-Some-Right : goal.returns-in-Some-Right
returns-in-Some-Right t c =
    let nodes = c.args.nodes.now in
    let l = tree_of nodes c.get-node.result.left in
    let r = tree_of nodes c.get-node.result.right in
    let here = ap (λ (link : Option ℕ). tree_of nodes link) c.in-Some.is ∙ c.get-node.ensures.tree in
    let turn = ap (λ (n : ℕ). turn_at n c.args.place) (sym c.get-node.ensures.before_is) ∙ sym c.turn.ensures ∙ c.in-Some-Right.is ∙ ap Some c.in-Some-Right.field-0-is in
    let next : c.get-node.result.before + 1 ≡ suc (size l) = omega (arith, c.get-node.ensures.before_is) in
    way-right (way c.args.above) (way c.path_to-in-Some-Right.result) l (item_of c.get-node.result.entry) r (tree_of nodes c.args.link) c.args.place here turn
    (c.path_to-in-Some-Right.ensures
    ∙ ap (λ (w : List Side). w ++ path r c.past.result) c.child-in-Some-Right.ensures.way
    ∙ ap (λ (p : Place). (way c.args.above ++ Right ∷ []) ++ path r p) (c.past.ensures ∙ ap (λ (n : ℕ). past n c.args.place) next))
