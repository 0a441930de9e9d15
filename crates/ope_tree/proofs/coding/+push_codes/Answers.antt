use Rattle.std.proofs.Common.{◌≡◌, ◌++◌, [], ◌∷◌, ℕ, suc, Option, List, arith, sym, ap, ◌∙◌, subst, append-nil}
use Rattle.tree_model.specs.declared.Side.{Side}
use Rattle.tree_model.specs.declared.Side.TheVariants.{Right}
use Rattle.tree_model.specs.Trees.{Tree, leaf, height}
use Rattle.tree_model.specs.Items.{Item}
use Rattle.path_code.specs.Ways.{way}
use Rattle.mope_base.specs.declared.body.Body.{Body}
use Rattle.code_changes.specs.Removal.{codes_along}
use Rattle.ope_tree.specs.Nodes.{IsLink, item_of, tree_of}
use Rattle.ope_tree.proofs.Reaching.{reach}
use Rattle.ope_tree.proofs.Builders.{tree_by-none, reach-older}
use Rattle.ope_tree.proofs.CodeLists.{coded, codes_along-leaf}
use Rattle.ope_tree.proofs.coding.+push_codes.Goals as goal

pub returns-in_default : goal.returns-in_default
returns-in_default t c =
    let empty : tree_of c.args.nodes.now c.args.link ≡ leaf = ap (λ (link : Option ℕ). tree_of c.args.nodes.now link) c.in_default.is ∙ tree_by-none (λ at n. item_of n.entry) c.args.nodes.now in
    sym (ap (λ (xs : List ℕ). c.args.codes.now.items ++ xs) (codes_along-leaf (way c.args.path) (tree_of c.args.nodes.now c.args.link) empty) ∙ append-nil c.args.codes.now.items)

pub get-node-requires : goal.get-node-requires
unfolding IsLink
get-node-requires t c = let P : Option ℕ → Type 0 = λ link. IsLink c.args.nodes.now link in subst P c.in-Some.is c.requires.link

pub child-left-requires : goal.child-left-requires
unfolding height
child-left-requires t c =
    let here = ap (λ (link : Option ℕ). tree_of c.args.nodes.now link) c.in-Some.is ∙ c.get-node.ensures.tree in
    omega (arith, ap (λ (u : Tree (Item Body)). height u) here, c.requires.short)

pub push_codes-requires : goal.push_codes-requires
unfolding height
push_codes-requires t c =
    let here = ap (λ (link : Option ℕ). tree_of c.args.nodes.now link) c.in-Some.is ∙ c.get-node.ensures.tree in
    let parent : reach c.args.link ≡ suc c.in-Some.at = ap reach c.in-Some.is in
    let child = reach-older c.in-Some.at c.get-node.result.left c.get-node.ensures.left_older in
    (omega (arith, parent, child, c.decreases), (c.get-node.ensures.left, omega (arith, ap (λ (u : Tree (Item Body)). height u) here, c.requires.short, c.child-left.ensures.len)))

pub push_codes-requires-2 : goal.push_codes-requires-2
unfolding height
push_codes-requires-2 t c =
    let here = ap (λ (link : Option ℕ). tree_of c.args.nodes.now link) c.in-Some.is ∙ c.get-node.ensures.tree in
    let parent : reach c.args.link ≡ suc c.in-Some.at = ap reach c.in-Some.is in
    let child = reach-older c.in-Some.at c.get-node.result.right c.get-node.ensures.right_older in
    (omega (arith, parent, child, c.decreases), (c.get-node.ensures.right, omega (arith, ap (λ (u : Tree (Item Body)). height u) here, c.requires.short, c.child-right.ensures.len)))

pub returns : goal.returns
returns t c =
    let nodes = c.args.nodes.now in
    let w = way c.args.path in
    let l = tree_of nodes c.get-node.result.left in
    let r = tree_of nodes c.get-node.result.right in
    let here = ap (λ (link : Option ℕ). tree_of nodes link) c.in-Some.is ∙ c.get-node.ensures.tree in
    coded c.args.codes.now.items c.push_codes.new.codes.items c.push_codes-2.new.codes.items w (item_of c.get-node.result.entry) l r (tree_of nodes c.args.link)
    (c.in_ok-push_codes.ensures ∙ ap (λ (v : List Side). c.args.codes.now.items ++ codes_along v l) c.child-left.ensures.way)
    (c.in_ok-push_codes-2.ensures
    ∙ ap (λ (v : List Side). c.push.new.self.items ++ codes_along v r) c.child-right.ensures.way
    ∙ ap (λ (xs : List ℕ). xs ++ codes_along (w ++ Right ∷ []) r) (c.in_ok-push.ensures.items ∙ ap (λ (n : ℕ). c.push_codes.new.codes.items ++ n ∷ []) c.code.ensures.spells))
    here
