-- Which rows of a table are within bounds on the codes of their items, and what a query gives of them. Rows are read by codes alone.
use Rattle.std.specs.Prelude.{ℕ, ◌<◌, Bool, true, false, List, [], ◌∷◌, length, map, filter, slice_get, Option, Some, None}
use Rattle.std.specs.List.{All}
use Rattle.mope_base.specs.declared.body.Body.{Body}
use Rattle.mope_base.specs.declared.numbers.ColNo.{ColNo}
use Rattle.table_model.specs.Stores.{Kept, Shelf}
use Rattle.table_model.specs.Soundness.{kept_numbers}
use Rattle.enc_table.specs.Rows.{row_code}
use Rattle.workload.specs.declared.script.Verb.{Verb}
use Rattle.workload.specs.declared.script.Verb.TheVariants as verb
use Rattle.workload.specs.Selection.{passes, chosen}
use Rattle.sql_plan.specs.declared.bounds.Bound.{Bound}
use Rattle.sql_plan.specs.declared.bounds.Query.{Query}
use Rattle.sql_plan.specs.Bounds.{as_test}

-- a row read by codes: the code of its item in a column
unfoldable pub by_code : Shelf Body → ColNo → Kept Body → ℕ
by_code s column row = row_code column.0 s row

-- the rows within each bound, by number
unfoldable pub passing : Shelf Body → List Bound → List (Kept Body)
passing s bounds = filter (passes (by_code s) (map as_test bounds)) s.kept

-- how many rows are within each bound by itself
unfoldable pub passing_counts : Shelf Body → List Bound → List ℕ
passing_counts s bounds = map (λ (b : Bound). length (passing s (b ∷ []))) bounds

-- the numbers of the rows that a query gives: those within its bounds, in its order, cut by its limit
unfoldable pub rows_found : Shelf Body → Query → List ℕ
rows_found s q = kept_numbers (chosen (by_code s) (verb.Rows [] q.order q.limit) (passing s q.bounds))

unfoldable pub extreme_verb : Bool → ColNo → Verb
extreme_verb false column = verb.Min column
extreme_verb true column = verb.Max column

-- the number of the row within the bounds with the least or the greatest code in a column, the lowest among equals
unfoldable pub extreme_found : Shelf Body → List Bound → ColNo → Bool → Option ℕ
extreme_found s bounds column greatest = slice_get (kept_numbers (chosen (by_code s) (extreme_verb greatest column) (passing s bounds))) 0

-- the columns of the bounds are there
abbrev pub HasBounds : Shelf Body → List Bound → Type 0
HasBounds s bounds = All (λ (b : Bound). b.column.0 < length s.columns) bounds

-- the column of an order is there
abbrev pub HasOrder : Shelf Body → Option (ColNo × Bool) → Type 0
HasOrder s None = Unit {0}
HasOrder s (Some order) = order.0.0 < length s.columns
