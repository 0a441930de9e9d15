-- The bound of a test holds the codes that meet the test.
use Rattle.std.proofs.Common.{◌≡◌, ℕ, suc, ◌+◌, ◌-◌, ◌<◌, ◌≤◌, Bool, true, false, ◌&&◌, ◌==◌, List, [], ◌∷◌, length, map, filter, get_or, refl, ap, ap₂, ◌∙◌, sym, inl, inr, arith, leb, ltb, eqb, le-leb, lt-ltb, eq-eqb, ne_eqb}
use Rattle.std.proofs.lemmas.Bool.{cases_Bool, and_parts, and_from, leb-true}
use Rattle.std.specs.Cmp.{both_ways}
use borrow.Author.Tests.{eqb-true, ltb-true}
use Rattle.std.specs.List.{All}
use Rattle.std.proofs.lemmas.List.Elements.{All-head, All-tail}
use Rattle.mope_base.specs.declared.body.Body.{Body}
use Rattle.mope_base.specs.declared.numbers.ColNo.{ColNo}
use Rattle.sql_text.specs.declared.Test.{Test}
use Rattle.sql_text.specs.declared.Test.TheVariants as test
use Rattle.table_model.specs.Stores.{Kept, Shelf}
use Rattle.enc_table.specs.Seen.{Seen, IsTable}
use Rattle.workload.specs.Selection.{meets, passes}
use Rattle.sql_plan.specs.declared.bounds.Bound.{Bound}
use Rattle.sql_plan.specs.Bounds.{top, ends_above, ends_of, bound_of, as_test}
use Rattle.sql_plan.specs.Plans.{by_code, passing}
use Rattle.sql_plan.specs.Laws.{HasCodes}
use Rattle.sql_plan.proofs.RowCodes.{Facts, facts-of, by_code-top}
use Rattle.sql_plan.proofs.Filtering.{filter-same}

between : (low high code : ℕ) (b : Bool) → (low ≤ code → code ≤ high → b ≡ true) → (b ≡ true → (low ≤ code) × (code ≤ high)) → leb low code && leb code high ≡ b
between low high code b from to =
    both_ways (leb low code && leb code high) b
    (λ h. let parts = and_parts (leb low code) (leb code high) h in from (leb-true low code parts.0) (leb-true code high parts.1))
    (λ h. let ends = to h in and_from (leb low code) (leb code high) (le-leb low code ends.0) (le-leb code high ends.1))

above : (last : Bool) (c code : ℕ) → (last ≡ true → c ≡ top) → code ≤ top → leb (ends_above last c).0 code && leb code (ends_above last c).1 ≡ ltb c code
unfolding ends_above
above true c code is fits =
    let greatest = is refl in
    between 1 0 code (ltb c code) (λ low high. absurd (omega arith)) (λ h. let lt = ltb-true c code h in absurd (omega arith))
above false c code is fits =
    between (c + 1) top code (ltb c code) (λ low high. lt-ltb c code (omega arith)) (λ h. let lt = ltb-true c code h in (omega arith, fits))

pub bound_holds : (column : ColNo) (t : Test) (code : ℕ) → HasCodes t → code ≤ top → meets (as_test (bound_of column t)).1 code ≡ meets t code
unfolding meets as_test bound_of ends_of
bound_holds column (test.Eq c) code has fits =
    between c c code (eqb code c) (λ low high. let same : code ≡ c = omega arith in eq-eqb code c same) (λ h. let same = eqb-true code c h in (omega arith, omega arith))
bound_holds column (test.Lt c) code has fits =
    let some = has.0 in
    between 0 (c - 1) code (ltb code c) (λ low high. lt-ltb code c (omega arith)) (λ h. let lt = ltb-true code c h in (omega arith, omega arith))
bound_holds column (test.Le c) code has fits =
    between 0 c code (leb code c) (λ low high. le-leb code c high) (λ h. (omega arith, leb-true code c h))
bound_holds column (test.Gt c) code has fits = above (c == top) c code (λ h. eqb-true c top h) fits
bound_holds column (test.Ge c) code has fits =
    between c top code (leb c code) (λ low high. le-leb c code low) (λ h. (leb-true c code h, fits))
bound_holds column (test.Between low high) code has fits = refl

abbrev pub bounded : ColNo × Test → Bound
bounded condition = bound_of condition.0 condition.1

abbrev pub Coded : Shelf Body → ColNo × Test → Type 0
Coded s condition = (condition.0.0 < length s.columns) × HasCodes condition.1

module _ (s : Shelf Body) (facts : Facts s) where
  one : (c : ColNo × Test) (row : Kept Body) → Coded s c → meets (as_test (bounded c)).1 (by_code s (as_test (bounded c)).0 row) ≡ meets c.1 (by_code s c.0 row)
  unfolding as_test bound_of
  one c row here = bound_holds c.0 c.1 (by_code s c.0 row) here.1 (by_code-top s facts c.0 row here.0)

  passes-bounds : (conditions : List (ColNo × Test)) (row : Kept Body) → All (Coded s) conditions → passes (by_code s) (map as_test (map bounded conditions)) row ≡ passes (by_code s) conditions row
  unfolding passes
  passes-bounds [] row coded = refl
  passes-bounds (c ∷ conditions) row coded =
      let here = All-head (Coded s) c conditions coded in
      ap₂ (λ (a b : Bool). a && b) (one c row here) (passes-bounds conditions row (All-tail (Coded s) c conditions coded))

pub bounds_select : (t : Seen) (conditions : List (ColNo × Test)) → IsTable t → All (Coded t.shelf) conditions → passing t.shelf (map bounded conditions) ≡ filter (passes (by_code t.shelf) conditions) t.shelf.kept
unfolding passing
bounds_select t conditions is coded =
    filter-same (passes (by_code t.shelf) conditions) (passes (by_code t.shelf) (map as_test (map bounded conditions))) t.shelf.kept
    (λ k d lt. passes-bounds t.shelf (facts-of t is) conditions (get_or t.shelf.kept k d) coded)
