use Rattle.std.proofs.Common.{◌≡◌, ◌∙◌, ap, sym, refl, ℕ, ◌<◌, List, [], ◌∷◌, length, drop, slice_get, arith}
use Rattle.std.specs.Option.{option_to_list}
use Rattle.column_index.specs.declared.entry.Entry.{Entry}
use Rattle.sql_plan.specs.Walks.{within}
use Rattle.sql_plan.proofs.Steps.{drop-more}
use Rattle.sql_plan.proofs.walking.first_from.Goals as goal

pub places-init : goal.places-init
places-init c = refl

pub places-preserved : goal.places-preserved
places-preserved c =
    let es = c.args.index.now.entries in
    let lt : c.places.place < length es = omega (arith, c.requires.inside) in
    c.places.invariant ∙ drop-more c.args.table.now.shelf c.args.bounds.now es c.places.place [] lt (sym (ap option_to_list c.in_default.is) ∙ c.entry_within.ensures)

pub returns-in-Some : goal.returns-in-Some
returns-in-Some c =
    let es = c.args.index.now.entries in
    let lt : c.places.place < length es = omega (arith, c.requires.inside) in
    sym (ap (λ (xs : List Entry). slice_get xs 0)
    (c.places.invariant ∙ drop-more c.args.table.now.shelf c.args.bounds.now es c.places.place (c.in-Some.entry ∷ []) lt (sym (ap option_to_list c.in-Some.is) ∙ c.entry_within.ensures)))

pub returns : goal.returns
returns c =
    let same : c.places.place ≡ c.args.end = omega (arith, c.requires.order) in
    sym (ap (λ (xs : List Entry). slice_get xs 0)
    (c.places.invariant ∙ ap (λ (n : ℕ). within c.args.table.now.shelf c.args.bounds.now (drop n c.args.index.now.entries)) same ∙ c.requires.after))
