use Rattle.std.proofs.Common.{ℕ, Option, ap, ◌∙◌, subst}
use Rattle.tree_model.specs.Trees.{Tree}
use Rattle.tree_model.specs.Items.{Item}
use Rattle.mope_base.specs.declared.body.Body.{Body}
use Rattle.ope_tree.specs.Nodes.{IsLink, item_of, tree_of}
use Rattle.ope_tree.specs.Standing.{root_item}
use Rattle.ope_tree.proofs.stops.stop_of.Goals as goal

pub get-requires : goal.get-requires
unfolding IsLink
get-requires c = let P : Option ℕ → Type 0 = λ link. IsLink c.args.nodes.now link in subst P c.in-Some.is c.requires

pub returns-in-Some : goal.returns-in-Some
unfolding root_item item_of
returns-in-Some c =
    (c.in-Some.is, c.get.result.entry.count, ap (λ (link : Option ℕ). root_item (tree_of c.args.nodes.now link)) c.in-Some.is ∙ ap (λ (t : Tree (Item Body)). root_item t) c.get.ensures.tree)
