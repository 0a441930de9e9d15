-- Answers by codes are the answers by values: the statements of the laws that this crate's functions without a body prove.
use Rattle.std.specs.Prelude.{◌≡◌, ℕ, ◌<◌, ◌≤◌, Bool, List, [], length, map, filter, slice_get, Option, Some, None}
use Rattle.std.specs.List.{All}
use Rattle.mope_base.specs.declared.body.Body.{Body}
use Rattle.mope_base.specs.declared.numbers.ColNo.{ColNo}
use Rattle.sql_text.specs.declared.Test.{Test}
use Rattle.sql_text.specs.declared.Test.TheVariants as test
use Rattle.table_model.specs.Stores.{Shelf, Store}
use Rattle.table_model.specs.Soundness.{kept_numbers}
use Rattle.table_model.specs.Standing.{Stands}
use Rattle.enc_table.specs.Seen.{Seen, IsTable}
use Rattle.workload.specs.declared.script.Ask.{Ask}
use Rattle.workload.specs.declared.script.Verb.{Verb}
use Rattle.workload.specs.declared.script.Verb.TheVariants as verb
use Rattle.workload.specs.Selection.{meets, passes, chosen, selected}
use Rattle.sql_plan.specs.declared.bounds.Bound.{Bound}
use Rattle.sql_plan.specs.Bounds.{top, bound_of, as_test}
use Rattle.sql_plan.specs.Plans.{by_code, passing, rows_found, extreme_verb, extreme_found, HasOrder}
use Rattle.sql_plan.specs.Readings.{by_value, Reads, ask_of_codes, bounds_for}

-- the constants of a test are codes: numbers of 64 bits, of which 0 is none
abbrev pub HasCodes : Test → Type 0
HasCodes (test.Eq code) = (1 ≤ code) × (code ≤ top)
HasCodes (test.Lt code) = (1 ≤ code) × (code ≤ top)
HasCodes (test.Le code) = (1 ≤ code) × (code ≤ top)
HasCodes (test.Gt code) = (1 ≤ code) × (code ≤ top)
HasCodes (test.Ge code) = (1 ≤ code) × (code ≤ top)
HasCodes (test.Between low high) = ((1 ≤ low) × (low ≤ top)) × ((1 ≤ high) × (high ≤ top))

-- the bound of a test holds the codes that meet it, and no others
abbrev pub BoundHolds : Type 0
BoundHolds = (column : ColNo) (t : Test) (code : ℕ) → HasCodes t → code ≤ top → meets (as_test (bound_of column t)).1 code ≡ meets t code

-- so the rows within the bounds of some conditions on codes are those that meet the conditions
abbrev pub BoundsSelect : Type 0
BoundsSelect = (t : Seen) (conditions : List (ColNo × Test)) → IsTable t → All (λ (condition : ColNo × Test). (condition.0.0 < length t.shelf.columns) × HasCodes condition.1) conditions → passing t.shelf (map (λ (condition : ColNo × Test). bound_of condition.0 condition.1) conditions) ≡ filter (passes (by_code t.shelf) conditions) t.shelf.kept

-- the columns that a verb chooses by are there
abbrev pub HasVerb : Shelf Body → Verb → Type 0
HasVerb s (verb.Rows columns order limit) = HasOrder s order
HasVerb s verb.Count = Unit {0}
HasVerb s (verb.Min column) = column.0 < length s.columns
HasVerb s (verb.Max column) = column.0 < length s.columns
HasVerb s verb.Delete = Unit {0}

-- the columns that a statement names are there
pub record HasColumns (s : Shelf Body) (ask : Ask) : Type 0 where
  pub tests : All (λ (condition : ColNo × Test). condition.0.0 < length s.columns) ask.tests
  pub verb : HasVerb s ask.verb

-- a statement is about the same rows whether they are read by values or, each constant being the code of its place, by codes
abbrev pub CodesSelectRows : Type 0
CodesSelectRows = (v : Body → ℕ) (t : Seen) (ask : Ask) → IsTable t → Reads v t.shelf → HasColumns t.shelf ask → selected (by_code t.shelf) (ask_of_codes v t.shelf ask) t.shelf.kept ≡ selected (by_value v) ask t.shelf.kept

-- the rows within the bounds for some conditions on values are those that meet the conditions; so are, of these, those that a query
-- gives in its order and under its limit, their number, and the row of an extreme
pub record AnswersByValue (v : Body → ℕ) (s : Shelf Body) (conditions : List (ColNo × Test)) : Type 0 where
  pub count : length (passing s (bounds_for v s conditions)) ≡ length (filter (passes (by_value v) conditions) s.kept)
  pub rows : (order : Option (ColNo × Bool)) (limit : Option ℕ) → HasOrder s order → rows_found s (record { bounds = bounds_for v s conditions; order = order; limit = limit }) ≡ kept_numbers (chosen (by_value v) (verb.Rows [] order limit) (filter (passes (by_value v) conditions) s.kept))
  pub extreme : (column : ColNo) (greatest : Bool) → column.0 < length s.columns → extreme_found s (bounds_for v s conditions) column greatest ≡ slice_get (kept_numbers (chosen (by_value v) (extreme_verb greatest column) (filter (passes (by_value v) conditions) s.kept))) 0

abbrev pub PlansAnswerByValue : Type 0
PlansAnswerByValue = (v : Body → ℕ) (t : Seen) (conditions : List (ColNo × Test)) → IsTable t → Reads v t.shelf → All (λ (condition : ColNo × Test). condition.0.0 < length t.shelf.columns) conditions → AnswersByValue v t.shelf conditions

-- a table that stands for one by value reads as it does
abbrev pub StandingReads : Type 0 → Type 0
StandingReads C = (seal : C → Body) (v : C → ℕ) (u : Body → ℕ) (same_time : Bool) (limit : ℕ) (s : Shelf Body) (t : Store C) → Stands Body C seal v same_time limit s t → ((c : C) → u (seal c) ≡ v c) → Reads u s
