use Rattle.std.proofs.Common.{ℕ, Option, ap, ◌∙◌, sym}
use Rattle.ope_tree.specs.Nodes.{item_of, tree_of}
use Rattle.tree_model.specs.Trees.{size}
use Rattle.ope_tree.proofs.Builders.{tree_by-none}
use Rattle.ope_tree.proofs.building.size_of.Goals as goal

pub returns-in-None : goal.returns-in-None
unfolding size
returns-in-None c =
    let empty = tree_by-none (λ at n. item_of n.entry) c.args.nodes.now in
    sym (ap (λ (link : Option ℕ). size (tree_of c.args.nodes.now link)) c.in-None.is ∙ ap size empty)
