use Rattle.std.proofs.Common.{◌≡◌, ℕ, Option, Some, slice_get, ap, ◌∙◌, arith}
use Rattle.std.proofs.lemmas.List.{get_or-map}
use Rattle.std.proofs.lemmas.Option.{slice_get_within, get_or_from_slice_get}
use Rattle.std.specs.Option.{option_map}
use Rattle.mope_base.specs.declared.body.Body.{Body}
use Rattle.tree_model.specs.Columns.{Column, items_of}
use Rattle.tree_model.specs.Items.{Item}
use Rattle.code_changes.specs.Columns.{counts_of}
use Rattle.ope_tree.specs.Conditions.{paired}
use Rattle.ope_tree.specs.Listed.{count_at}
use Rattle.report.proofs.view_tests.drop_first.Goals as goal

-- how many rows the item there has
count_there : (c : Column Body) (rank : ℕ) (x : Item Body) → slice_get (items_of c) rank ≡ Some x → count_at c rank ≡ x.count
unfolding count_at counts_of
count_there c rank x e =
    get_or-map (λ item. item.count) (items_of c) rank x 0 (slice_get_within (items_of c) rank x e)
    ∙ ap (λ (i : Item Body). i.count) (get_or_from_slice_get (items_of c) rank x x e)

pub drop_one-requires-clause-has_row : goal.drop_one-requires-clause-has_row
drop_one-requires-clause-has_row c =
    let known = c.item.ensures ∙ ap (λ (o : Option (Body × ℕ)). option_map paired o) c.in-Some.is in
    let here = count_there c.args.tree.now.column 0 _ known in
    omega (arith, here, c.in-Some.count-is, c.if-count-eq0.false)
