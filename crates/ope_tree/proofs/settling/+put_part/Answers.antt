use Rattle.std.proofs.Common.{◌≡◌, ◌-◌, ℕ, suc, take, Option, arith, refl, sym, ap, ◌∙◌}
use Rattle.ope_tree.specs.Nodes.{item_of, tree_of}
use Rattle.ope_tree.proofs.Reaching.{reach}
use Rattle.ope_tree.proofs.Fitting.{fits_left, fits_right, node-counts}
use Rattle.tree_model.proofs.Outside.{size-put_at}
use Rattle.ope_tree.proofs.Builders.{reach-older, built_before, built_same, built_left_as, built_right_as}
use Rattle.ope_tree.proofs.LinkCases.{no_tree, node_of_link}
use Rattle.tree_model.specs.declared.Place.TheVariants.{Found}
use Rattle.tree_model.specs.Trees.{path, size}
use Rattle.tree_model.specs.Insertion.{put_at}
use Rattle.ope_tree.proofs.Putting.{along-none, along-zero, along-here, along-left, along-right, at-left, at-right, put-whole, put-left, put-right}
use Rattle.ope_tree.proofs.settling.+put_part.Goals as goal

pub returns-in_default : goal.returns-in_default
returns-in_default t c =
    let nodes = c.args.nodes.now in
    let t = tree_of nodes c.args.link in
    let w = take c.args.depth (path t (Found c.args.rank)) in
    let u = tree_of nodes c.args.part in
    let none = along-none t c.args.rank c.args.depth (no_tree nodes c.args.link c.in_default.is) in
    built_same nodes nodes c.args.part u (put_at w t u) (sym (put-whole w t u none)) (built_before nodes c.args.part c.requires.part)

pub returns-then-depth-eq0 : goal.returns-then-depth-eq0
returns-then-depth-eq0 t c =
    let nodes = c.args.nodes.now in
    let t = tree_of nodes c.args.link in
    let w = take c.args.depth (path t (Found c.args.rank)) in
    let u = tree_of nodes c.args.part in
    let none = along-zero c.args.depth (path t (Found c.args.rank)) (omega arith) in
    built_same nodes nodes c.args.part u (put_at w t u) (sym (put-whole w t u none)) (built_before nodes c.args.part c.requires.part)

pub get-node-requires : goal.get-node-requires
get-node-requires t c = node_of_link c.args.nodes.now c.args.link c.in-Some.at c.requires.link c.in-Some.is

pub put_part-requires : goal.put_part-requires
put_part-requires t c =
    let nodes = c.args.nodes.now in
    let n = c.get-node.result in
    let l = tree_of nodes n.left in
    let r = tree_of nodes n.right in
    let here = ap (λ (link : Option ℕ). tree_of nodes link) c.in-Some.is ∙ c.get-node.ensures.tree in
    let whole = tree_of nodes c.args.link in
    let d = c.args.depth in
    let k = d - 1 in
    let step : d ≡ suc k = omega arith in
    let w = take d (path whole (Found c.args.rank)) in
    let rest = take k (path l (Found c.args.rank)) in
    let same = c.requires.same ∙ ap size (at-left l (item_of n.entry) r whole w rest here (along-left l (item_of n.entry) r whole c.args.rank d k here (omega arith) step)) in
    let parent : reach c.args.link ≡ suc c.in-Some.at = ap reach c.in-Some.is in
    let child = reach-older c.in-Some.at n.left c.get-node.ensures.left_older in
    (omega (arith, parent, child, c.decreases), (c.get-node.ensures.left, (c.requires.part, same)))

pub add_node-requires : goal.add_node-requires
add_node-requires t c =
    let nodes = c.args.nodes.now in
    let n = c.get-node.result in
    let l = tree_of nodes n.left in
    let r = tree_of nodes n.right in
    let here = ap (λ (link : Option ℕ). tree_of nodes link) c.in-Some.is ∙ c.get-node.ensures.tree in
    let whole = tree_of nodes c.args.link in
    let d = c.args.depth in
    let k = d - 1 in
    let step : d ≡ suc k = omega arith in
    let w = take d (path whole (Found c.args.rank)) in
    let rest = take k (path l (Found c.args.rank)) in
    let same = c.requires.same ∙ ap size (at-left l (item_of n.entry) r whole w rest here (along-left l (item_of n.entry) r whole c.args.rank d k here (omega arith) step)) in
    let u = tree_of nodes c.args.part in
    fits_left nodes c.put_part.new.nodes c.in-Some.at n c.in_ok-left.left n.size n.before n.entry (put_at rest l u)
    c.get-node.ensures c.in_ok-left.ensures (c.get-node.ensures.before_is ∙ sym (size-put_at rest l u same)) refl

pub returns-then-rank-before : goal.returns-then-rank-before
returns-then-rank-before t c =
    let nodes = c.args.nodes.now in
    let left = c.get-node.result.left in
    let right = c.get-node.result.right in
    let l = tree_of nodes left in
    let r = tree_of nodes right in
    let x = item_of c.get-node.result.entry in
    let here = ap (λ (link : Option ℕ). tree_of nodes link) c.in-Some.is ∙ c.get-node.ensures.tree in
    let whole = tree_of nodes c.args.link in
    let u = tree_of nodes c.args.part in
    let d = c.args.depth in
    let k = d - 1 in
    let step : d ≡ suc k = omega arith in
    let w = take d (path whole (Found c.args.rank)) in
    let rest = take k (path l (Found c.args.rank)) in
    built_left_as nodes c.put_part.new.nodes c.add_node.new.nodes c.in_ok-left.left right c.in_ok-whole.whole x (put_at rest l u) (put_at w whole u)
    c.in_ok-left.ensures c.get-node.ensures.right c.in_ok-whole.ensures
    (put-left l x r whole u w rest here (along-left l x r whole c.args.rank d k here (omega arith) step))

pub put_part-requires-then-before-rank : goal.put_part-requires-then-before-rank
put_part-requires-then-before-rank t c =
    let nodes = c.args.nodes.now in
    let n = c.get-node.result in
    let l = tree_of nodes n.left in
    let r = tree_of nodes n.right in
    let here = ap (λ (link : Option ℕ). tree_of nodes link) c.in-Some.is ∙ c.get-node.ensures.tree in
    let whole = tree_of nodes c.args.link in
    let d = c.args.depth in
    let k = d - 1 in
    let step : d ≡ suc k = omega arith in
    let w = take d (path whole (Found c.args.rank)) in
    let m = c.args.rank - n.before - 1 in
    let rest = take k (path r (Found m)) in
    let same = c.requires.same ∙ ap size (at-right l (item_of n.entry) r whole w rest here (along-right l (item_of n.entry) r whole c.args.rank m d k here (omega arith) step)) in
    let parent : reach c.args.link ≡ suc c.in-Some.at = ap reach c.in-Some.is in
    let child = reach-older c.in-Some.at n.right c.get-node.ensures.right_older in
    (omega (arith, parent, child, c.decreases), (c.get-node.ensures.right, (c.requires.part, same)))

pub add_node-requires-then-before-rank : goal.add_node-requires-then-before-rank
add_node-requires-then-before-rank t c =
    let nodes = c.args.nodes.now in
    let n = c.get-node.result in
    let l = tree_of nodes n.left in
    let r = tree_of nodes n.right in
    let here = ap (λ (link : Option ℕ). tree_of nodes link) c.in-Some.is ∙ c.get-node.ensures.tree in
    let whole = tree_of nodes c.args.link in
    let d = c.args.depth in
    let k = d - 1 in
    let step : d ≡ suc k = omega arith in
    let w = take d (path whole (Found c.args.rank)) in
    let m = c.args.rank - n.before - 1 in
    let rest = take k (path r (Found m)) in
    let same = c.requires.same ∙ ap size (at-right l (item_of n.entry) r whole w rest here (along-right l (item_of n.entry) r whole c.args.rank m d k here (omega arith) step)) in
    let u = tree_of nodes c.args.part in
    fits_right nodes c.put_part-then-before-rank.new.nodes c.in-Some.at n c.in_ok-right.right n.size n.entry (put_at rest r u)
    c.get-node.ensures c.in_ok-right.ensures (omega (arith, node-counts nodes c.in-Some.at n c.get-node.ensures, size-put_at rest r u same))

pub returns-then-before-rank : goal.returns-then-before-rank
returns-then-before-rank t c =
    let nodes = c.args.nodes.now in
    let left = c.get-node.result.left in
    let right = c.get-node.result.right in
    let l = tree_of nodes left in
    let r = tree_of nodes right in
    let x = item_of c.get-node.result.entry in
    let here = ap (λ (link : Option ℕ). tree_of nodes link) c.in-Some.is ∙ c.get-node.ensures.tree in
    let whole = tree_of nodes c.args.link in
    let u = tree_of nodes c.args.part in
    let d = c.args.depth in
    let k = d - 1 in
    let step : d ≡ suc k = omega arith in
    let w = take d (path whole (Found c.args.rank)) in
    let m = c.args.rank - c.get-node.result.before - 1 in
    let rest = take k (path r (Found m)) in
    built_right_as nodes c.put_part-then-before-rank.new.nodes c.add_node-then-before-rank.new.nodes left c.in_ok-right.right c.in_ok-whole-2.whole x (put_at rest r u) (put_at w whole u)
    c.get-node.ensures.left c.in_ok-right.ensures c.in_ok-whole-2.ensures
    (put-right l x r whole u w rest here (along-right l x r whole c.args.rank m d k here (omega arith) step))

pub returns : goal.returns
returns t c =
    let nodes = c.args.nodes.now in
    let left = c.get-node.result.left in
    let right = c.get-node.result.right in
    let l = tree_of nodes left in
    let r = tree_of nodes right in
    let x = item_of c.get-node.result.entry in
    let here = ap (λ (link : Option ℕ). tree_of nodes link) c.in-Some.is ∙ c.get-node.ensures.tree in
    let whole = tree_of nodes c.args.link in
    let w = take c.args.depth (path whole (Found c.args.rank)) in
    let u = tree_of nodes c.args.part in
    let none = along-here l x r whole c.args.rank c.args.depth here (omega arith) in
    built_same nodes nodes c.args.part u (put_at w whole u) (sym (put-whole w whole u none)) (built_before nodes c.args.part c.requires.part)
