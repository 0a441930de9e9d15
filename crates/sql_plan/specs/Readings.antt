-- Rows read by values, where something tells what a body reads as; and the bounds on codes that stand for tests of values.
use Rattle.std.specs.Prelude.{◌≡◌, ℕ, ◌<◌, List, length, map, get_or}
use Rattle.mope_base.specs.declared.body.Body.{Body}
use Rattle.mope_base.specs.declared.numbers.ColNo.{ColNo}
use Rattle.sql_text.specs.declared.Test.{Test}
use Rattle.sql_text.specs.declared.Test.TheVariants as test
use Rattle.tree_model.specs.Places.{place, IsIncreasing}
use Rattle.tree_model.specs.Items.{values}
use Rattle.tree_model.specs.Columns.{Column, items_of}
use Rattle.path_code.specs.Laws.{code_in}
use Rattle.table_model.specs.Stores.{Kept, Shelf}
use Rattle.table_model.specs.Soundness.{column_at, ranks_at, readings_at}
use Rattle.workload.specs.declared.script.Ask.{Ask}
use Rattle.sql_plan.specs.declared.bounds.Bound.{Bound}
use Rattle.sql_plan.specs.Bounds.{test_by, bound_of}

-- a row read by values: what its body in a column reads as
unfoldable pub by_value : (Body → ℕ) → ColNo → Kept Body → ℕ
by_value v column row = get_or (map v row.bodies) column.0 0

-- in each column the items increase by what they read as, and each row's body reads as its item does
pub record Reads (v : Body → ℕ) (s : Shelf Body) : Type 0 where
  pub rise : (column : ℕ) → column < length s.columns → IsIncreasing (values v (items_of (column_at s.columns column)))
  pub rows : (column : ℕ) → column < length s.columns → readings_at v column s.kept ≡ map (λ rank. get_or (values v (items_of (column_at s.columns column))) rank 0) (ranks_at column s.kept)

-- the code of a constant's place in a column
unfoldable pub place_code : (Body → ℕ) → Shelf Body → ColNo → ℕ → ℕ
place_code v s column c = code_in (column_at s.columns column.0).tree (place (values v (items_of (column_at s.columns column.0))) c)

-- the number of a test, its first constant and its second: that of BETWEEN, and of the others the first again
unfoldable pub test_number : Test → ℕ
test_number (test.Eq c) = 0
test_number (test.Lt c) = 1
test_number (test.Le c) = 2
test_number (test.Gt c) = 3
test_number (test.Ge c) = 4
test_number (test.Between low high) = 5

unfoldable pub first_constant : Test → ℕ
first_constant (test.Eq c) = c
first_constant (test.Lt c) = c
first_constant (test.Le c) = c
first_constant (test.Gt c) = c
first_constant (test.Ge c) = c
first_constant (test.Between low high) = low

unfoldable pub second_constant : Test → ℕ
second_constant (test.Eq c) = c
second_constant (test.Lt c) = c
second_constant (test.Le c) = c
second_constant (test.Gt c) = c
second_constant (test.Ge c) = c
second_constant (test.Between low high) = high

-- a test of values as one of codes, and a condition with it: each constant becomes the code of its place
unfoldable pub test_of_codes : (Body → ℕ) → Shelf Body → ColNo → Test → Test
test_of_codes v s column t = test_by (test_number t) (place_code v s column (first_constant t)) (place_code v s column (second_constant t))

unfoldable pub condition_of_codes : (Body → ℕ) → Shelf Body → ColNo × Test → ColNo × Test
condition_of_codes v s condition = (condition.0, test_of_codes v s condition.0 condition.1)

-- a statement with the codes of its constants' places in their stead
unfoldable pub ask_of_codes : (Body → ℕ) → Shelf Body → Ask → Ask
ask_of_codes v s ask = record { table = ask.table; verb = ask.verb; tests = map (condition_of_codes v s) ask.tests }

-- the bounds of the codes that meet conditions on values
unfoldable pub bounds_for : (Body → ℕ) → Shelf Body → List (ColNo × Test) → List Bound
bounds_for v s conditions = map (λ (condition : ColNo × Test). bound_of condition.0 (test_of_codes v s condition.0 condition.1)) conditions
