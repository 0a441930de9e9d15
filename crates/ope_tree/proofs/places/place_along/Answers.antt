use Rattle.std.proofs.Common.{◌≡◌, ℕ, List, [], ◌∷◌, ◌++◌, Option, ap, ◌∙◌, sym, subst, arith}
use Rattle.tree_model.specs.declared.Side.{Side}
use Rattle.tree_model.specs.Trees.{size}
use Rattle.path_code.specs.Codes.{steps}
use Rattle.ope_tree.specs.Nodes.{tree_of}
use Rattle.ope_tree.proofs.LinkCases.{node_of_link}
use Rattle.ope_tree.proofs.WalkedPlaces.{IsSpot, IsSpot-root, spot-within, IsSpot-longer, nowhere_from_spot, place_at_spot, taken_of, taken-all, taken-longer, taken-whole}
use Rattle.ope_tree.proofs.places.place_along.Goals as goal

pub steps-init : goal.steps-init
unfolding steps
steps-init c = IsSpot-root c.args.nodes.now c.args.root c.requires.is_link

pub returns-in_default : goal.returns-in_default
returns-in_default c =
    let taken = taken_of c.args.path.len c.args.path.bits c.steps.taken in
    let rest = taken-whole c.args.path.len c.args.path.bits c.steps.taken c.steps-test.true in
    nowhere_from_spot c.args.nodes.now c.args.root taken c.steps.spot.link c.steps.spot.before rest.0 rest.1 (steps c.args.path.len c.args.path.bits) c.steps.invariant c.in_default.is rest.2

pub onward-spot-requires-clause-is_node : goal.onward-spot-requires-clause-is_node
onward-spot-requires-clause-is_node c = node_of_link c.args.nodes.now c.steps.spot.link c.in-Some.at c.steps.invariant.is_link c.in-Some.is

pub onward-spot-requires-clause-few : goal.onward-spot-requires-clause-few
onward-spot-requires-clause-few c =
    let inside = spot-within c.args.nodes.now c.args.root (taken_of c.args.path.len c.args.path.bits c.steps.taken) c.steps.spot.link c.steps.spot.before c.steps.invariant in
    let here = ap (λ (link : Option ℕ). size (tree_of c.args.nodes.now link)) c.in-Some.is in
    omega (arith, c.requires.few, inside, here)

pub steps-preserved : goal.steps-preserved
steps-preserved c =
    let nodes = c.args.nodes.now in
    let taken = taken_of c.args.path.len c.args.path.bits c.steps.taken in
    let here = subst (λ (link : Option ℕ). IsSpot nodes c.args.root taken link c.steps.spot.before) c.in-Some.is c.steps.invariant in
    let further = IsSpot-longer nodes c.args.root taken c.in-Some.at c.steps.spot.before c.lowest_step-side.result c.onward-spot.result.link c.onward-spot.result.before here c.onward-spot.ensures in
    let way_is = taken-longer c.args.path.len c.args.path.bits c.steps.taken c.steps-test.true ∙ ap (λ (side : Side). taken ++ side ∷ []) (sym c.lowest_step-side.ensures) in
    subst (λ (way : List Side). IsSpot nodes c.args.root way c.onward-spot.result.link c.onward-spot.result.before) (sym way_is) further

pub place_of_root-requires-clause-few : goal.place_of_root-requires-clause-few
place_of_root-requires-clause-few c =
    let inside = spot-within c.args.nodes.now c.args.root (taken_of c.args.path.len c.args.path.bits c.steps.taken) c.steps.spot.link c.steps.spot.before c.steps.invariant in
    omega (arith, c.requires.few, inside)

pub returns : goal.returns
returns c =
    let nodes = c.args.nodes.now in
    let all : c.steps.taken ≡ c.args.path.len = omega (arith, c.steps.auto.taken-end, c.steps-test.false) in
    let way_is = ap (λ (n : ℕ). taken_of c.args.path.len c.args.path.bits n) all ∙ taken-all c.args.path.len c.args.path.bits in
    let spot = subst (λ (way : List Side). IsSpot nodes c.args.root way c.steps.spot.link c.steps.spot.before) way_is c.steps.invariant in
    place_at_spot nodes c.args.root (steps c.args.path.len c.args.path.bits) c.steps.spot.link c.steps.spot.before c.place_of_root.result spot c.place_of_root.ensures
