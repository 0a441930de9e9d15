-- The bounds on codes that stand for the tests of a statement, and which of several numbers is the first least one.
use Rattle.std.specs.Prelude.{◌≡◌, ℕ, zero, suc, ◌+◌, ◌-◌, ◌^◌, ◌<◌, ◌≤◌, Bool, true, false, ◌==◌, List, length, get_or}
use Rattle.mope_base.specs.declared.numbers.ColNo.{ColNo}
use Rattle.sql_text.specs.declared.Test.{Test}
use Rattle.sql_text.specs.declared.Test.TheVariants as test
use Rattle.sql_plan.specs.declared.bounds.Bound.{Bound}

-- the test of this number: 0 `=`, 1 `<`, 2 `<=`, 3 `>`, 4 `>=`, 5 BETWEEN; BETWEEN alone has the second constant
unfoldable pub test_by : ℕ → ℕ → ℕ → Test
test_by zero first second = test.Eq first
test_by (suc zero) first second = test.Lt first
test_by (suc (suc zero)) first second = test.Le first
test_by (suc (suc (suc zero))) first second = test.Gt first
test_by (suc (suc (suc (suc zero)))) first second = test.Ge first
test_by (suc (suc (suc (suc (suc op))))) first second = test.Between first second

-- the greatest number of 64 bits
abbrev pub top : ℕ
top = 2 ^ 64 - 1

-- what is above a code: nothing is above the greatest
unfoldable pub ends_above : Bool → ℕ → ℕ × ℕ
ends_above true code = (1, 0)
ends_above false code = (code + 1, top)

-- the least and the greatest code that meet a test of codes; the first is above the second where none does
unfoldable pub ends_of : Test → ℕ × ℕ
ends_of (test.Eq code) = (code, code)
ends_of (test.Lt code) = (0, code - 1)
ends_of (test.Le code) = (0, code)
ends_of (test.Gt code) = ends_above (code == top) code
ends_of (test.Ge code) = (code, top)
ends_of (test.Between low high) = (low, high)

-- the bound of the codes that meet a test in a column
unfoldable pub bound_of : ColNo → Test → Bound
bound_of column t = record { column = column; lo = (ends_of t).0; hi = (ends_of t).1 }

-- a bound as a test of the codes in its column
unfoldable pub as_test : Bound → ColNo × Test
as_test b = (b.column, test.Between b.lo b.hi)

-- the place of the first least one of these numbers
pub record IsFirstLeast (numbers : List ℕ) (place : ℕ) : Type 0 where
  pub within : place < length numbers
  pub before : (earlier : ℕ) → earlier < place → get_or numbers place 0 < get_or numbers earlier 0
  pub least : (other : ℕ) → other < length numbers → get_or numbers place 0 ≤ get_or numbers other 0
