-- INSERT, DELETE and an install on a table: by rank on a shelf, by value on a store.
use Rattle.std.specs.Prelude.{ℕ, suc, Bool, true, false, ◌==◌, List, [], ◌∷◌, ◌++◌, map}
use Rattle.tree_model.specs.declared.Place.{Place}
use Rattle.tree_model.specs.Columns.{Operation, Lay}
use Rattle.table_model.specs.Stores.{Row, Store, Kept, Shelf, ranks_by}
use Rattle.table_model.specs.Steps.{operate, operated, adds, drops, only, rank_in, places_by}

-- ---- the row of a number

unfoldable pub here_or : {A : Type 0} → Bool → A → A → A
here_or true here rest = here
here_or false here rest = rest

-- the rows without the first that has this number
unfoldable pub without : {A : Type 0} → (A → ℕ) → ℕ → List A → List A
without number_of number [] = []
without number_of number (row ∷ rows) = here_or (number_of row == number) rows (row ∷ without number_of number rows)

-- what the first row with this number has, and nothing where there is none
unfoldable pub of_row : {A C : Type 0} → (A → ℕ) → (A → List C) → ℕ → List A → List C
of_row number_of what number [] = []
of_row number_of what number (row ∷ rows) = here_or (number_of row == number) (what row) (of_row number_of what number rows)

unfoldable pub ranks_of : {B : Type 0} → ℕ → List (Kept B) → List ℕ
ranks_of {B} number kept = of_row (λ (row : Kept B). row.number) (λ (row : Kept B). row.ranks) number kept

unfoldable pub cells_of : {B : Type 0} → ℕ → List (Row B) → List B
cells_of {B} number rows = of_row (λ (row : Row B). row.number) (λ (row : Row B). row.cells) number rows

unfoldable pub kept_without : {B : Type 0} → ℕ → List (Kept B) → List (Kept B)
kept_without {B} number kept = without (λ (row : Kept B). row.number) number kept

unfoldable pub rows_without : {B : Type 0} → ℕ → List (Row B) → List (Row B)
rows_without {B} number rows = without (λ (row : Row B). row.number) number rows

-- ---- by rank

-- the other rows follow their items; the new row has the number `next` and stands last, at the ranks of its places
unfoldable pub with_kept : {B : Type 0} → List ℕ → List B → Shelf B → Shelf B
with_kept ranks bodies s = record {
  kept = s.kept ++ (record { number = s.next; bodies = bodies; ranks = ranks }) ∷ [];
  next = suc s.next;
  columns = s.columns;
}

unfoldable pub insert_row : {B : Type 0} → Bool → List Place → List B → Shelf B → Shelf B
insert_row same_time places bodies s = with_kept (map rank_in places) bodies (operated same_time (adds places bodies) s)

-- the row taken out, its columns as they are
unfoldable pub shelf_without : {B : Type 0} → ℕ → Shelf B → Shelf B
shelf_without number s = record { kept = kept_without number s.kept; next = s.next; columns = s.columns }

-- the row taken out, then in each column one row fewer at its rank
unfoldable pub delete_row : {B : Type 0} → Bool → ℕ → Shelf B → Shelf B
delete_row same_time number s = operated same_time (drops (ranks_of number s.kept)) (shelf_without number s)

-- one row after the other
unfoldable pub delete_rows : {B : Type 0} → Bool → List ℕ → Shelf B → Shelf B
delete_rows same_time [] s = s
delete_rows same_time (number ∷ numbers) s = delete_rows same_time numbers (delete_row same_time number s)

-- for each row in turn, what its deletion does to each column
unfoldable pub delete_steps : {B : Type 0} → Bool → List ℕ → Shelf B → List (List (List (Operation B)))
delete_steps same_time [] s = []
delete_steps same_time (number ∷ numbers) s = drops (ranks_of number s.kept) ∷ delete_steps same_time numbers (delete_row same_time number s)

-- the tree of one column becomes balanced
unfoldable pub lay_column : {B : Type 0} → Bool → ℕ → Shelf B → Shelf B
lay_column same_time column s = operated same_time (only column (Lay ∷ [])) s

-- ---- by value

-- the new row has the number `next`; in each column one row more at the place of the cell's value
unfoldable pub insert_cells : {B : Type 0} → Bool → (B → ℕ) → List B → Store B → Store B
insert_cells same_time v cells t = record {
  rows = t.rows ++ (record { number = t.next; cells = cells }) ∷ [];
  next = suc t.next;
  columns = operate same_time (adds (places_by v t.columns cells) cells) t.columns;
}

-- the row taken out; in each column one row fewer at the rank of its cell's value
unfoldable pub delete_number : {B : Type 0} → Bool → (B → ℕ) → ℕ → Store B → Store B
delete_number same_time v number t = record {
  rows = rows_without number t.rows;
  next = t.next;
  columns = operate same_time (drops (ranks_by v t.columns (cells_of number t.rows))) t.columns;
}

-- one row after the other
unfoldable pub delete_numbers : {B : Type 0} → Bool → (B → ℕ) → List ℕ → Store B → Store B
delete_numbers same_time v [] t = t
delete_numbers same_time v (number ∷ numbers) t = delete_numbers same_time v numbers (delete_number same_time v number t)

-- the tree of one column becomes balanced
unfoldable pub lay_store : {B : Type 0} → Bool → ℕ → Store B → Store B
lay_store same_time column t = record { rows = t.rows; next = t.next; columns = operate same_time (only column (Lay ∷ [])) t.columns }
