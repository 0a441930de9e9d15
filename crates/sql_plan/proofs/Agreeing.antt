-- Rows that are read alike in the columns of a table pass the same tests.
use Rattle.std.proofs.Common.{◌≡◌, ℕ, ◌<◌, Bool, true, false, ◌&&◌, List, [], ◌∷◌, length, map, filter, get_or, refl, ap, ◌∙◌, sym}
use Rattle.std.specs.List.{All}
use Rattle.std.proofs.lemmas.List.Elements.{All-head, All-tail, All-map, All-weaker}
use Rattle.mope_base.specs.declared.body.Body.{Body}
use Rattle.mope_base.specs.declared.numbers.ColNo.{ColNo}
use Rattle.sql_text.specs.declared.Test.{Test}
use Rattle.table_model.specs.Stores.{Kept, Shelf}
use Rattle.table_model.specs.Soundness.{kept_numbers}
use Rattle.workload.specs.Selection.{meets, passes}
use Rattle.sql_plan.specs.declared.bounds.Bound.{Bound}
use Rattle.sql_plan.specs.Bounds.{as_test}
use Rattle.sql_plan.specs.Plans.{by_code, passing, HasBounds}
use Rattle.sql_plan.specs.Walks.{by_number, is_within}
use Rattle.sql_plan.proofs.RowCodes.{Facts, Told, told-rows}
use Rattle.sql_plan.proofs.Filtering.{filter-map}

-- the columns of conditions are there
abbrev pub AllIn : ℕ → List (ColNo × Test) → Type 0
AllIn width tests = All (λ (t : ColNo × Test). t.0.0 < width) tests

pub passes-alike : {A B : Type 0} (at : ColNo → A → ℕ) (at2 : ColNo → B → ℕ) (width : ℕ) (x : A) (y : B) (tests : List (ColNo × Test)) → ((column : ColNo) → column.0 < width → at2 column y ≡ at column x) → AllIn width tests
    → passes at2 tests y ≡ passes at tests x
unfolding passes
passes-alike at at2 width x y [] same there = refl
passes-alike at at2 width x y (t ∷ tests) same there =
    let P : ColNo × Test → Type 0 = λ (c : ColNo × Test). c.0.0 < width in
    ap (λ (n : ℕ). meets t.1 n && passes at2 tests y) (same t.0 (All-head P t tests there))
    ∙ ap (λ (b : Bool). meets t.1 (at t.0 x) && b) (passes-alike at at2 width x y tests same (All-tail P t tests there))

pub tests-in : (width : ℕ) (bounds : List Bound) → All (λ (b : Bound). b.column.0 < width) bounds → AllIn width (map as_test bounds)
unfolding as_test
tests-in width bounds there = All-map (λ (t : ColNo × Test). t.0.0 < width) as_test bounds there

-- a row is within the bounds by its number exactly where it is by its codes
abbrev pub SameWithin : Shelf Body → List Bound → Kept Body → Type 0
SameWithin s bounds row = is_within s bounds row.number ≡ passes (by_code s) (map as_test bounds) row

pub within-rows : (s : Shelf Body) (bounds : List Bound) → Facts s → HasBounds s bounds → All (SameWithin s bounds) s.kept
unfolding is_within
within-rows s bounds facts there k d lt =
    passes-alike (by_code s) (by_number s) (length s.columns) (get_or s.kept k d) (get_or s.kept k d).number (map as_test bounds) (told-rows s facts k d lt) (tests-in (length s.columns) bounds there)
