use Rattle.std.proofs.Common.{ℕ, List, ◌++◌, reverse, ap, ◌∙◌, arith}
use Rattle.tree_model.specs.declared.Place.TheVariants.{Found}
use Rattle.tree_model.specs.Trees.{path}
use Rattle.tree_model.specs.Balance.{nearest_heavy}
use Rattle.tree_model.specs.Insertion.{sizes_along}
use Rattle.tree_model.proofs.Ways.{length-path}
use Rattle.ope_tree.specs.Nodes.{tree_of}
use Rattle.ope_tree.specs.Settling.{tall_depth}
use Rattle.ope_tree.proofs.Ancestors.{length-ancestors, ancestors-small, ancestors-tall}
use Rattle.ope_tree.proofs.settling.depth_of_tall.Goals as goal

pub pick-above-requires-clause-few : goal.pick-above-requires-clause-few
pick-above-requires-clause-few c =
    let t = tree_of c.args.nodes.now c.args.link in
    let way = path t (Found c.args.rank) in
    let e = c.deref.ensures.value ∙ c.in_ok-push_sizes.ensures ∙ ap (λ (xs : List ℕ). xs ++ reverse (sizes_along way t)) c.new-sizes.ensures.items in
    omega (arith, length-ancestors c.deref.result.now way t e, length-path t (Found c.args.rank), c.requires.short)

pub pick-above-requires-clause-small : goal.pick-above-requires-clause-small
pick-above-requires-clause-small c = λ j h.
    let t = tree_of c.args.nodes.now c.args.link in
    let way = path t (Found c.args.rank) in
    let e = c.deref.ensures.value ∙ c.in_ok-push_sizes.ensures ∙ ap (λ (xs : List ℕ). xs ++ reverse (sizes_along way t)) c.new-sizes.ensures.items in
    omega (arith, ancestors-small c.deref.result.now way t e j h, c.requires.few, c.requires.fits)

pub pick-above-requires-clause-some : goal.pick-above-requires-clause-some
pick-above-requires-clause-some c =
    let t = tree_of c.args.nodes.now c.args.link in
    let way = path t (Found c.args.rank) in
    let e = c.deref.ensures.value ∙ c.in_ok-push_sizes.ensures ∙ ap (λ (xs : List ℕ). xs ++ reverse (sizes_along way t)) c.new-sizes.ensures.items in
    ancestors-tall c.args.most c.deref.result.now way t e c.requires.few c.requires.deep

pub overflow_cast-result : goal.overflow_cast-result
overflow_cast-result c =
    let t = tree_of c.args.nodes.now c.args.link in
    let way = path t (Found c.args.rank) in
    let e = c.deref.ensures.value ∙ c.in_ok-push_sizes.ensures ∙ ap (λ (xs : List ℕ). xs ++ reverse (sizes_along way t)) c.new-sizes.ensures.items in
    omega (arith, length-ancestors c.deref.result.now way t e, length-path t (Found c.args.rank), c.requires.short, c.len.ensures, c.deref.ensures.len)

pub returns : goal.returns
unfolding tall_depth
returns c =
    let t = tree_of c.args.nodes.now c.args.link in
    let way = path t (Found c.args.rank) in
    let e = c.deref.ensures.value ∙ c.in_ok-push_sizes.ensures ∙ ap (λ (xs : List ℕ). xs ++ reverse (sizes_along way t)) c.new-sizes.ensures.items in
    let rule = c.pick-above.ensures.rule ∙ ap (λ (xs : List ℕ). nearest_heavy 1 xs) e in
    omega (arith, rule, length-ancestors c.deref.result.now way t e, c.len.ensures, c.deref.ensures.len)
