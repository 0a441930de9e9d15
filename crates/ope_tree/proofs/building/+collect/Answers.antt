use Rattle.std.proofs.Common.{◌≡◌, ◌++◌, [], ◌∷◌, ℕ, suc, Option, List, arith, sym, ap, ◌∙◌, subst, append-nil}
use Rattle.tree_model.specs.Trees.{Tree, inorder}
use Rattle.tree_model.specs.Items.{Item}
use Rattle.mope_base.specs.declared.body.Body.{Body}
use Rattle.ope_tree.specs.declared.nodes.Entry.{Entry}
use Rattle.ope_tree.specs.Nodes.{IsLink, item_of, items_of_entries, tree_of}
use Rattle.ope_tree.proofs.Reaching.{reach}
use Rattle.ope_tree.proofs.Builders.{tree_by-none, reach-older, collected}
use Rattle.ope_tree.proofs.building.+collect.Goals as goal

pub returns-in_default : goal.returns-in_default
unfolding inorder
returns-in_default t c =
    let empty = tree_by-none (λ at n. item_of n.entry) c.args.nodes.now in
    let none : inorder (tree_of c.args.nodes.now c.args.link) ≡ [] = ap (λ (link : Option ℕ). inorder (tree_of c.args.nodes.now link)) c.in_default.is ∙ ap (λ (u : Tree (Item Body)). inorder u) empty in
    sym (ap (λ (xs : List (Item Body)). items_of_entries c.args.entries.now.items ++ xs) none ∙ append-nil (items_of_entries c.args.entries.now.items))

pub get-node-requires : goal.get-node-requires
unfolding IsLink
get-node-requires t c = let P : Option ℕ → Type 0 = λ link. IsLink c.args.nodes.now link in subst P c.in-Some.is c.requires

pub collect-requires : goal.collect-requires
collect-requires t c =
    let parent : reach c.args.link ≡ suc c.in-Some.at = ap reach c.in-Some.is in
    let child = reach-older c.in-Some.at c.get-node.result.left c.get-node.ensures.left_older in
    (omega (arith, parent, child, c.decreases), c.get-node.ensures.left)

pub collect-requires-2 : goal.collect-requires-2
collect-requires-2 t c =
    let parent : reach c.args.link ≡ suc c.in-Some.at = ap reach c.in-Some.is in
    let child = reach-older c.in-Some.at c.get-node.result.right c.get-node.ensures.right_older in
    (omega (arith, parent, child, c.decreases), c.get-node.ensures.right)

pub returns : goal.returns
returns t c =
    let nodes = c.args.nodes.now in
    let pushed : c.push.new.self.items ≡ c.collect.new.entries.items ++ c.get-node.result.entry ∷ [] = c.in_ok-push.ensures.items in
    let here = ap (λ (link : Option ℕ). tree_of nodes link) c.in-Some.is ∙ c.get-node.ensures.tree in
    collected c.args.entries.now.items c.collect.new.entries.items c.collect-2.new.entries.items c.get-node.result.entry (tree_of nodes c.get-node.result.left) (tree_of nodes c.get-node.result.right) (tree_of nodes c.args.link)
    c.in_ok-collect.ensures
    (c.in_ok-collect-2.ensures ∙ ap (λ (xs : List Entry). items_of_entries xs ++ inorder (tree_of nodes c.get-node.result.right)) pushed)
    here
