use Rattle.std.proofs.Common.{◌≡◌, ◌∙◌, sym, refl, List, [], ◌∷◌, length, arith}
use borrow.Author.Tests.{eqb-true}
use Rattle.sql_plan.specs.declared.bounds.Bound.{Bound}
use Rattle.sql_plan.proofs.Pages.{count-all}
use Rattle.sql_plan.proofs.plans.count.Goals as goal

no_bounds : (bounds : List Bound) → length bounds ≡ 0 → bounds ≡ []
no_bounds [] none = refl
no_bounds (b ∷ bounds) none = absurd (omega arith)

pub returns-then-is_empty : goal.returns-then-is_empty
returns-then-is_empty c =
    let none : length c.as_slice-bounds.result.now ≡ 0 = eqb-true (length c.as_slice-bounds.result.now) 0 (sym c.if-is_empty.ensures) in
    c.rows.ensures.value ∙ count-all c.args.table.now.shelf c.args.query.now.bounds (sym c.as_slice-bounds.ensures ∙ no_bounds c.as_slice-bounds.result.now none)
