use Rattle.std.proofs.Common.{◌≡◌, ◌-◌, ℕ, suc, take, Option, arith, refl, ap, ◌∙◌}
use Rattle.tree_model.specs.declared.Place.TheVariants.{Found}
use Rattle.tree_model.specs.Trees.{Tree, node, size, height, path}
use Rattle.tree_model.specs.Items.{Item}
use Rattle.mope_base.specs.declared.body.Body.{Body}
use Rattle.ope_tree.specs.Nodes.{item_of, tree_of}
use Rattle.ope_tree.proofs.Reaching.{reach}
use Rattle.ope_tree.proofs.Builders.{reach-older}
use Rattle.ope_tree.proofs.LinkCases.{no_tree, node_of_link}
use Rattle.ope_tree.specs.declared.settling.Part.{Part}
use Rattle.ope_tree.proofs.Putting.{along-none, along-zero, along-here, along-left, along-right, part_itself, part_left, part_right}
use Rattle.ope_tree.proofs.settling.+part_below.Goals as goal

pub returns-in_default : goal.returns-in_default
returns-in_default t c =
    let nodes = c.args.nodes.now in
    let part = c.args.part in
    let whole = tree_of nodes part.link in
    let none = along-none whole part.rank c.args.depth (no_tree nodes part.link c.in_default.is) in
    part_itself nodes part (take c.args.depth (path whole (Found part.rank))) none c.requires.link c.requires.short c.requires.is_rank

pub returns-then-depth-eq0 : goal.returns-then-depth-eq0
returns-then-depth-eq0 t c =
    let nodes = c.args.nodes.now in
    let part = c.args.part in
    let whole = tree_of nodes part.link in
    let none = along-zero c.args.depth (path whole (Found part.rank)) (omega arith) in
    part_itself nodes part (take c.args.depth (path whole (Found part.rank))) none c.requires.link c.requires.short c.requires.is_rank

pub get-node-requires : goal.get-node-requires
get-node-requires t c = node_of_link c.args.nodes.now c.args.part.link c.in-Some.at c.requires.link c.in-Some.is

pub child-requires : goal.child-requires
unfolding height
child-requires t c =
    let here = ap (λ (link : Option ℕ). tree_of c.args.nodes.now link) c.in-Some.is ∙ c.get-node.ensures.tree in
    omega (arith, ap (λ (u : Tree (Item Body)). height u) here, c.requires.short)

pub part_below-requires : goal.part_below-requires
unfolding height size
part_below-requires t c =
    let here = ap (λ (link : Option ℕ). tree_of c.args.nodes.now link) c.in-Some.is ∙ c.get-node.ensures.tree in
    let parent : reach c.args.part.link ≡ suc c.in-Some.at = ap reach c.in-Some.is in
    let child = reach-older c.in-Some.at c.get-node.result.left c.get-node.ensures.left_older in
    (omega (arith, parent, child, c.decreases), (c.get-node.ensures.left, (omega (arith, ap (λ (u : Tree (Item Body)). height u) here, c.requires.short, c.child.ensures.len), omega (arith, ap (λ (u : Tree (Item Body)). size u) here, c.requires.is_rank))))

pub returns-then-part-before : goal.returns-then-part-before
returns-then-part-before t c =
    let nodes = c.args.nodes.now in
    let part = c.args.part in
    let whole = tree_of nodes part.link in
    let l = tree_of nodes c.get-node.result.left in
    let r = tree_of nodes c.get-node.result.right in
    let x = item_of c.get-node.result.entry in
    let here : whole ≡ node l x r = ap (λ (link : Option ℕ). tree_of nodes link) c.in-Some.is ∙ c.get-node.ensures.tree in
    let d = c.args.depth in
    let k = d - 1 in
    let step : d ≡ suc k = omega arith in
    let w = take d (path whole (Found part.rank)) in
    let inner : Part = record { link = c.get-node.result.left; path = c.child.result; rank = part.rank } in
    let rest = take k (path l (Found part.rank)) in
    part_left nodes part inner c.part_below.result x r w rest (along-left l x r whole part.rank d k here (omega arith) step) here c.child.ensures.way refl c.part_below.ensures

pub child-requires-then-before-part : goal.child-requires-then-before-part
unfolding height
child-requires-then-before-part t c =
    let here = ap (λ (link : Option ℕ). tree_of c.args.nodes.now link) c.in-Some.is ∙ c.get-node.ensures.tree in
    omega (arith, ap (λ (u : Tree (Item Body)). height u) here, c.requires.short)

pub part_below-requires-then-before-part : goal.part_below-requires-then-before-part
unfolding height size
part_below-requires-then-before-part t c =
    let here = ap (λ (link : Option ℕ). tree_of c.args.nodes.now link) c.in-Some.is ∙ c.get-node.ensures.tree in
    let parent : reach c.args.part.link ≡ suc c.in-Some.at = ap reach c.in-Some.is in
    let child = reach-older c.in-Some.at c.get-node.result.right c.get-node.ensures.right_older in
    (omega (arith, parent, child, c.decreases), (c.get-node.ensures.right, (omega (arith, ap (λ (u : Tree (Item Body)). height u) here, c.requires.short, c.child-then-before-part.ensures.len), omega (arith, ap (λ (u : Tree (Item Body)). size u) here, c.requires.is_rank))))

pub returns-then-before-part : goal.returns-then-before-part
returns-then-before-part t c =
    let nodes = c.args.nodes.now in
    let part = c.args.part in
    let whole = tree_of nodes part.link in
    let l = tree_of nodes c.get-node.result.left in
    let r = tree_of nodes c.get-node.result.right in
    let x = item_of c.get-node.result.entry in
    let here : whole ≡ node l x r = ap (λ (link : Option ℕ). tree_of nodes link) c.in-Some.is ∙ c.get-node.ensures.tree in
    let d = c.args.depth in
    let k = d - 1 in
    let step : d ≡ suc k = omega arith in
    let w = take d (path whole (Found part.rank)) in
    let m = part.rank - c.get-node.result.before - 1 in
    let inner : Part = record { link = c.get-node.result.right; path = c.child-then-before-part.result; rank = m } in
    let rest = take k (path r (Found m)) in
    part_right nodes part inner c.part_below-then-before-part.result l x w rest (along-right l x r whole part.rank m d k here (omega arith) step) here c.child-then-before-part.ensures.way (omega arith) c.part_below-then-before-part.ensures

pub returns : goal.returns
returns t c =
    let nodes = c.args.nodes.now in
    let part = c.args.part in
    let whole = tree_of nodes part.link in
    let l = tree_of nodes c.get-node.result.left in
    let r = tree_of nodes c.get-node.result.right in
    let x = item_of c.get-node.result.entry in
    let here : whole ≡ node l x r = ap (λ (link : Option ℕ). tree_of nodes link) c.in-Some.is ∙ c.get-node.ensures.tree in
    let none = along-here l x r whole part.rank c.args.depth here (omega arith) in
    part_itself nodes part (take c.args.depth (path whole (Found part.rank))) none c.requires.link c.requires.short c.requires.is_rank
