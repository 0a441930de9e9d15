-- The answers of plans by the codes of the constants' places are those of the selection by values.
use Rattle.std.proofs.Common.{◌≡◌, ℕ, ◌<◌, ◌≤◌, Bool, true, false, List, [], ◌∷◌, length, map, filter, get_or, slice_get, Option, Some, None, refl, ap, ◌∙◌, sym, subst, arith}
use Rattle.std.specs.List.{All}
use Rattle.std.proofs.lemmas.List.Elements.{All-map, All-filter}
use Rattle.std.proofs.lemmas.List.{length-map}
use Rattle.mope_base.specs.declared.body.Body.{Body}
use Rattle.mope_base.specs.declared.numbers.ColNo.{ColNo}
use Rattle.sql_text.specs.declared.Test.{Test}
use Rattle.sql_text.specs.declared.Test.TheVariants as test
use Rattle.tree_model.specs.Places.{place, IsIncreasing}
use Rattle.tree_model.specs.Items.{Item, values}
use Rattle.tree_model.specs.Columns.{Column, items_of, map_column}
use Rattle.table_model.specs.Stores.{Kept, Shelf, Store, map_shelf, shelf_of}
use Rattle.table_model.specs.Soundness.{kept_numbers, column_at}
use Rattle.table_model.specs.Standing.{Stands}
use Rattle.table_model.proofs.Lists.{map-map, map-same}
use Rattle.table_model.proofs.Sealed.{bodies_read_as_items}
use Rattle.table_model.proofs.StoreMaps.{values-map_column}
use Rattle.table_model.proofs.SoundMaps.{column_at-map}
use Rattle.enc_table.specs.Seen.{Seen, IsTable}
use Rattle.workload.specs.declared.script.Verb.{Verb}
use Rattle.workload.specs.declared.script.Verb.TheVariants as verb
use Rattle.workload.specs.Selection.{passes, chosen}
use Rattle.sql_plan.specs.declared.bounds.Bound.{Bound}
use Rattle.sql_plan.specs.Bounds.{top, test_by, bound_of}
use Rattle.sql_plan.specs.Plans.{by_code, passing, rows_found, extreme_verb, extreme_found, HasOrder}
use Rattle.sql_plan.specs.Readings.{by_value, Reads, place_code, test_number, first_constant, second_constant, test_of_codes, condition_of_codes, bounds_for}
use Rattle.sql_plan.specs.Laws.{HasCodes, HasVerb, AnswersByValue}
use Rattle.sql_plan.proofs.RowCodes.{Facts, facts-of}
use Rattle.sql_plan.proofs.TestBounds.{bounded, Coded, bounds_select}
use Rattle.sql_plan.proofs.ValueRows.{Owns, owns-rows, filter-values, chosen-alike, code-top}

module _ (v : Body → ℕ) (s : Shelf Body) (facts : Facts s) where
  place-top : (column : ColNo) (c : ℕ) → column.0 < length s.columns → (1 ≤ place_code v s column c) × (place_code v s column c ≤ top)
  unfolding place_code
  place-top column c there = code-top (column_at s.columns column.0).tree (place (values v (items_of (column_at s.columns column.0))) c) (facts.low column.0 there)

  coded-test : (column : ColNo) (t : Test) → column.0 < length s.columns → HasCodes (test_of_codes v s column t)
  unfolding test_of_codes test_by test_number first_constant second_constant
  coded-test column (test.Eq c) there = place-top column c there
  coded-test column (test.Lt c) there = place-top column c there
  coded-test column (test.Le c) there = place-top column c there
  coded-test column (test.Gt c) there = place-top column c there
  coded-test column (test.Ge c) there = place-top column c there
  coded-test column (test.Between low high) there = (place-top column low there, place-top column high there)

  coded-conditions : (conditions : List (ColNo × Test)) → All (λ (condition : ColNo × Test). condition.0.0 < length s.columns) conditions → All (Coded s) (map (condition_of_codes v s) conditions)
  unfolding condition_of_codes
  coded-conditions conditions there =
      All-map (Coded s) (condition_of_codes v s) conditions
      (λ k d lt. let here = there k d lt in (here, coded-test (get_or conditions k d).0 (get_or conditions k d).1 here))

  bounds-are : (conditions : List (ColNo × Test)) → bounds_for v s conditions ≡ map bounded (map (condition_of_codes v s) conditions)
  unfolding bounds_for condition_of_codes
  bounds-are conditions = sym (map-map bounded (condition_of_codes v s) conditions)

module _ (v : Body → ℕ) (t : Seen) (is : IsTable t) (reads : Reads v t.shelf) (conditions : List (ColNo × Test)) (there : All (λ (condition : ColNo × Test). condition.0.0 < length t.shelf.columns) conditions) where
  passing-values : passing t.shelf (bounds_for v t.shelf conditions) ≡ filter (passes (by_value v) conditions) t.shelf.kept
  passing-values =
      let facts = facts-of t is in
      ap (passing t.shelf) (bounds-are v t.shelf facts conditions)
      ∙ bounds_select t (map (condition_of_codes v t.shelf) conditions) is (coded-conditions v t.shelf facts conditions there)
      ∙ filter-values v t.shelf facts reads conditions t.shelf.kept there (owns-rows v t is reads)

  chosen-values : (verb : Verb) → HasVerb t.shelf verb → chosen (by_code t.shelf) verb (passing t.shelf (bounds_for v t.shelf conditions)) ≡ chosen (by_value v) verb (filter (passes (by_value v) conditions) t.shelf.kept)
  chosen-values verb has =
      ap (chosen (by_code t.shelf) verb) passing-values
      ∙ chosen-alike v t.shelf (facts-of t is) reads verb has (filter (passes (by_value v) conditions) t.shelf.kept) (All-filter (passes (by_value v) conditions) (Owns v t.shelf) t.shelf.kept (owns-rows v t is reads))

  extreme-values : (column : ColNo) (greatest : Bool) → column.0 < length t.shelf.columns
      → extreme_found t.shelf (bounds_for v t.shelf conditions) column greatest ≡ slice_get (kept_numbers (chosen (by_value v) (extreme_verb greatest column) (filter (passes (by_value v) conditions) t.shelf.kept))) 0
  unfolding extreme_found extreme_verb
  extreme-values column false in' = ap (λ (rows : List (Kept Body)). slice_get (kept_numbers rows) 0) (chosen-values (verb.Min column) in')
  extreme-values column true in' = ap (λ (rows : List (Kept Body)). slice_get (kept_numbers rows) 0) (chosen-values (verb.Max column) in')

  pub answers-by-value : AnswersByValue v t.shelf conditions
  unfolding rows_found
  answers-by-value = record {
    count = ap length passing-values;
    rows = λ order limit orders. ap kept_numbers (chosen-values (verb.Rows [] order limit) orders);
    extreme = extreme-values;
  }

-- ---- a table that stands for one by value

sealed-values : {C : Type 0} (seal : C → Body) (v : C → ℕ) (u : Body → ℕ) (items : List (Item C)) → ((c : C) → u (seal c) ≡ v c) → values (λ (c : C). u (seal c)) items ≡ values v items
unfolding values
sealed-values {C} seal v u items says = map-same (λ (item : Item C). u (seal item.body)) (λ (item : Item C). v item.body) items (λ item. says item.body)

pub standing_reads : {C : Type 0} (seal : C → Body) (v : C → ℕ) (u : Body → ℕ) (same_time : Bool) (limit : ℕ) (s : Shelf Body) (t : Store C) → Stands Body C seal v same_time limit s t → ((c : C) → u (seal c) ≡ v c) → Reads u s
unfolding map_shelf shelf_of
standing_reads {C} seal v u same_time limit s t stands says = record {
  rise = λ column lt.
      let columns : s.columns ≡ map (map_column seal) t.columns = ap (λ (x : Shelf Body). x.columns) stands.same in
      let lt' : column < length t.columns = omega (arith, ap (λ (cs : List (Column Body)). length cs) columns, length-map t.columns (map_column seal)) in
      subst (λ (xs : List ℕ). IsIncreasing xs)
      (sym (ap (λ (cs : List (Column Body)). values u (items_of (column_at cs column))) columns
      ∙ ap (λ (c : Column Body). values u (items_of c)) (column_at-map seal t.columns column) ∙ values-map_column seal u (column_at t.columns column)
      ∙ sealed-values seal v u (items_of (column_at t.columns column)) says))
      (stands.sound.columns column lt').tallied.rise;
  rows = λ column lt. bodies_read_as_items seal v same_time limit s t u column stands says lt;
}
