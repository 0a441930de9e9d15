use Rattle.std.proofs.Common.{List, [], ◌∷◌, ◌++◌, ap, ◌∙◌, ℕ}
use Rattle.ope_tree.proofs.InsertionSteps.{normal_one}
use Rattle.ope_tree.proofs.inserting.added_alone.Goals as goal

pub of-requires : goal.of-requires
of-requires c =
    normal_one c.new.result.items c.new-2.result.items c.push.new.self.items c.args.code c.new.ensures.items c.new-2.ensures.items
    (c.in_ok-push.ensures.items ∙ ap (λ (xs : List ℕ). xs ++ c.args.code ∷ []) c.new-added.ensures.items)
