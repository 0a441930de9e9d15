-- Changes of a column's codes, one after the other, that together are what a list of operations does.
use Rattle.std.specs.Prelude.{◌≡◌, ℕ, zero, suc, ◌≤◌, Bool, List, [], ◌∷◌, ◌++◌, get_or}
use Rattle.mope_base.specs.declared.body.Body.{Body}
use Rattle.tree_model.specs.Trees.{height}
use Rattle.tree_model.specs.Columns.{Column, Operation, apply_all}
use Rattle.path_code.specs.Sums.{Sum, sum_of}
use Rattle.versions.specs.declared.draft.Logged.{Logged}
use Rattle.versions.specs.declared.draft.Logged.TheVariants.{Row, Rows}

-- the operations are as many parts in order, and each change is the sum of its part; no way in between has more than 63 steps
unfoldable pub IsSummed : Bool → Column Body → List (Operation Body) → List Sum → Type 0
IsSummed same_time c operations [] = (height c.tree ≤ 63) × (operations ≡ [])
IsSummed same_time c operations (s ∷ sums) = (part : List (Operation Body)) × ((rest : List (Operation Body)) × ((height c.tree ≤ 63) × (operations ≡ part ++ rest) × (s ≡ sum_of same_time part c) × IsSummed same_time (apply_all same_time part c) rest sums))

-- some column and some operations on it have these changes
pub record AreInTurn (sums : List Sum) : Type 0 where
  pub same_time : Bool
  pub column : Column Body
  pub operations : List (Operation Body)
  pub summed : IsSummed same_time column operations sums

-- ---- what was noted of each operation on a table

-- the one of a place, and none where there are fewer
unfoldable pub one_at : {A : Type 0} → List A → ℕ → List A
one_at [] place = []
one_at (x ∷ xs) zero = x ∷ []
one_at (x ∷ xs) (suc place) = one_at xs place

-- the changes of a column
unfoldable pub noted : Logged → ℕ → List Sum
noted (Row changes) column = one_at changes column
noted (Rows lists) column = get_or lists column []

-- those of all operations in order
unfoldable pub all_noted : List Logged → ℕ → List Sum
all_noted [] column = []
all_noted (entry ∷ log) column = noted entry column ++ all_noted log column
