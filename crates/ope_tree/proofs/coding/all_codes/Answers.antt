use Rattle.std.proofs.Common.{ℕ, List, ◌++◌, ap₂, ◌∙◌}
use Rattle.tree_model.specs.declared.Side.{Side}
use Rattle.ope_tree.specs.Nodes.{tree_of}
use Rattle.code_changes.specs.Removal.{codes_along}
use Rattle.code_changes.proofs.RankedCodes.{codes_along-by_rank}
use Rattle.ope_tree.proofs.coding.all_codes.Goals as goal

pub returns : goal.returns
returns c =
    c.in_ok-push_codes.ensures
    ∙ ap₂ (λ (codes : List ℕ) (w : List Side). codes ++ codes_along w (tree_of c.args.nodes.now c.args.link)) c.new-codes.ensures.items c.root.ensures.empty
    ∙ codes_along-by_rank (tree_of c.args.nodes.now c.args.link)
