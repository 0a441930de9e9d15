-- What a commit or an install does to the codes of each column.
use Rattle.std.specs.Prelude.{ℕ, suc, Bool, true, false, ◌&&◌, ◌==◌, List, [], ◌∷◌, ◌++◌}
use Rattle.mope_base.specs.declared.body.Body.{Body}
use Rattle.tree_model.specs.Columns.{Column, Operation, Lay}
use Rattle.path_code.specs.Sums.{unless, Sum, sum_of}
use Rattle.table_model.specs.Stores.{Shelf}
use Rattle.table_model.specs.Steps.{only}
use Rattle.table_model.specs.Operations.{RankOp, steps_if, ops_steps}
use Rattle.versions.specs.declared.change.ColumnChange.{ColumnChange}
use Rattle.versions.specs.Databases.{Database}

unfoldable pub is_nothing : {A : Type 0} → List A → Bool
is_nothing [] = true
is_nothing (x ∷ xs) = false

-- whether a change leaves all codes
unfoldable pub leaves_codes : Sum → Bool
leaves_codes s = is_nothing s.moved && is_nothing s.dropped && is_nothing s.added

-- a column's change in front of others, unless it leaves all codes
unfoldable pub listed : ℕ → ℕ → Sum → List ColumnChange → List ColumnChange
listed table column s changes = unless (leaves_codes s) (record { table = record { 0 = table }; column = record { 0 = column }; summary = s }) changes

-- what each column's list of operations does to its codes, from a column of a table on; a column whose codes all stay isn't listed
unfoldable pub column_changes : Bool → ℕ → ℕ → List (List (Operation Body)) → List (Column Body) → List ColumnChange
column_changes same_time table column [] cs = []
column_changes same_time table column (operations ∷ more) [] = []
column_changes same_time table column (operations ∷ more) (c ∷ cs) =
    listed table column (sum_of same_time operations c) (column_changes same_time table (suc column) more cs)

-- the same from a table on, where `steps` tells the lists of each table's columns
unfoldable pub table_changes : Bool → (ℕ → List (List (Operation Body))) → ℕ → List (Shelf Body) → List ColumnChange
table_changes same_time steps table [] = []
table_changes same_time steps table (s ∷ shelves) = column_changes same_time table 0 (steps table) s.columns ++ table_changes same_time steps (suc table) shelves

-- what operations do to each column: all of its operations in order are one list
unfoldable pub ops_changes : List (RankOp Body) → Database → List ColumnChange
ops_changes ops d = table_changes d.same_time (λ table. ops_steps d.same_time table ops d.shelves) 0 d.shelves

-- what an install does
unfoldable pub install_changes : ℕ → ℕ → Database → List ColumnChange
install_changes table column d = table_changes d.same_time (λ t. steps_if (t == table) (only column (Lay ∷ []))) 0 d.shelves
