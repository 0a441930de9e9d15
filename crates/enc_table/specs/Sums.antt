-- What operations on a table do to the codes of each of its columns.
use Rattle.std.specs.Prelude.{ℕ, Bool, List, [], ◌∷◌, map}
use Rattle.tree_model.specs.Columns.{Column, Operation}
use Rattle.path_code.specs.Sums.{Sum, sum_of}
use Rattle.table_model.specs.Stores.{Shelf}
use Rattle.table_model.specs.Steps.{drops}
use Rattle.table_model.specs.Changes.{delete_row, ranks_of}

-- for each column what its list of operations does to its codes
unfoldable pub sums : {B : Type 0} → Bool → List (List (Operation B)) → List (Column B) → List Sum
sums same_time [] cs = []
sums same_time (operations ∷ more) [] = []
sums same_time (operations ∷ more) (c ∷ cs) = sum_of same_time operations c ∷ sums same_time more cs

-- each of these in front of the list at its place
unfoldable pub before_each : {A : Type 0} → List A → List (List A) → List (List A)
before_each [] lists = lists
before_each (x ∷ xs) [] = []
before_each (x ∷ xs) (list ∷ lists) = (x ∷ list) ∷ before_each xs lists

-- for each column what the deletion of each row does to its codes, one row after the other
unfoldable pub delete_sums : {B : Type 0} → Bool → List ℕ → Shelf B → List (List Sum)
delete_sums same_time [] s = map (λ c. []) s.columns
delete_sums same_time (number ∷ numbers) s = before_each (sums same_time (drops (ranks_of number s.kept)) s.columns) (delete_sums same_time numbers (delete_row same_time number s))
