-- Operations on the columns of a table, with one list of them for each column; columns beyond the lists stay as they are.
use Rattle.std.specs.Prelude.{ℕ, suc, zero, Bool, List, [], ◌∷◌, ◌++◌, map}
use Rattle.tree_model.specs.declared.Place.{Place}
use Rattle.tree_model.specs.declared.Place.TheVariants.{Found, Gap}
use Rattle.tree_model.specs.Places.{place}
use Rattle.tree_model.specs.Items.{values}
use Rattle.tree_model.specs.Columns.{Column, items_of, Operation, Add, Drop, apply_all, map_operation}
use Rattle.tree_model.specs.Sums.{origins}
use Rattle.tree_model.specs.Carried.{carried}
use Rattle.table_model.specs.Stores.{Kept, Shelf}

-- the columns after the operations
unfoldable pub operate : {B : Type 0} → Bool → List (List (Operation B)) → List (Column B) → List (Column B)
operate same_time [] cs = cs
operate same_time (operations ∷ more) [] = []
operate same_time (operations ∷ more) (c ∷ cs) = apply_all same_time operations c ∷ operate same_time more cs

-- the ranks of a row's items after the operations
unfoldable pub follow : {B : Type 0} → Bool → List (List (Operation B)) → List (Column B) → List ℕ → List ℕ
follow same_time [] cs ranks = ranks
follow same_time (operations ∷ more) [] ranks = ranks
follow same_time (operations ∷ more) (c ∷ cs) [] = []
follow same_time (operations ∷ more) (c ∷ cs) (rank ∷ ranks) = carried (origins same_time operations c) rank ∷ follow same_time more cs ranks

unfoldable pub kept_after : {B : Type 0} → Bool → List (List (Operation B)) → List (Column B) → Kept B → Kept B
kept_after same_time steps cs row = record { number = row.number; bodies = row.bodies; ranks = follow same_time steps cs row.ranks }

-- the table after operations that leave each row its items
unfoldable pub operated : {B : Type 0} → Bool → List (List (Operation B)) → Shelf B → Shelf B
operated same_time steps s = record {
  kept = map (kept_after same_time steps s.columns) s.kept;
  next = s.next;
  columns = operate same_time steps s.columns;
}

-- first these operations on each column, then those
unfoldable pub then_steps : {B : Type 0} → List (List (Operation B)) → List (List (Operation B)) → List (List (Operation B))
then_steps [] later = later
then_steps (operations ∷ more) [] = operations ∷ more
then_steps (operations ∷ more) (next ∷ later) = (operations ++ next) ∷ then_steps more later

-- several such lists one after the other
unfoldable pub all_steps : {B : Type 0} → List (List (List (Operation B))) → List (List (Operation B))
all_steps [] = []
all_steps (steps ∷ more) = then_steps steps (all_steps more)

-- ---- what INSERT, DELETE and an install do to each column

-- one row more: in each column one more at the place of its body
unfoldable pub adds : {B : Type 0} → List Place → List B → List (List (Operation B))
adds [] bodies = []
adds (p ∷ places) [] = []
adds (p ∷ places) (b ∷ bodies) = (Add p b ∷ []) ∷ adds places bodies

-- one row fewer: in each column one fewer at the rank of its item
unfoldable pub drops : {B : Type 0} → List ℕ → List (List (Operation B))
drops ranks = map (λ rank. Drop rank ∷ []) ranks

-- one column alone
unfoldable pub only : {B : Type 0} → ℕ → List (Operation B) → List (List (Operation B))
only zero operations = operations ∷ []
only (suc column) operations = [] ∷ only column operations

-- the rank of an item, or the one that a new item takes
unfoldable pub rank_in : Place → ℕ
rank_in (Found rank) = rank
rank_in (Gap rank) = rank

-- in each column the place of a cell's value among the column's values
unfoldable pub places_by : {B : Type 0} → (B → ℕ) → List (Column B) → List B → List Place
places_by v [] cells = []
places_by v (c ∷ cs) [] = []
places_by v (c ∷ cs) (cell ∷ cells) = place (values v (items_of c)) (v cell) ∷ places_by v cs cells

-- the operations with their bodies mapped
unfoldable pub map_steps : {B C : Type 0} → (B → C) → List (List (Operation B)) → List (List (Operation C))
map_steps f steps = map (λ operations. map (map_operation f) operations) steps
