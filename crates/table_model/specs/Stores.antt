-- Tables told in two ways. A store works by value: it is a table as its readers think of it, with the columns of trees that belong to it.
-- A shelf works by rank: a row knows which item of each column is its own, and no value is looked at. Both are over any type of bodies.
use Rattle.std.specs.Prelude.{ℕ, List, [], ◌∷◌, map, replicate}
use Rattle.tree_model.specs.Places.{below}
use Rattle.tree_model.specs.Items.{values}
use Rattle.tree_model.specs.Columns.{Column, empty_column, items_of, map_column}

-- a row by value: its number, and one cell for each column
pub record Row (B : Type 0) : Type 0 where
  pub number : ℕ
  pub cells : List B

-- a table by value: its rows in the order of their numbers, the number of the next row, and its columns
pub record Store (B : Type 0) : Type 0 where
  pub rows : List (Row B)
  pub next : ℕ
  pub columns : List (Column B)

-- a row by rank: its number, one body for each column, and for each column the rank of its item there
pub record Kept (B : Type 0) : Type 0 where
  pub number : ℕ
  pub bodies : List B
  pub ranks : List ℕ

-- a table by rank
pub record Shelf (B : Type 0) : Type 0 where
  pub kept : List (Kept B)
  pub next : ℕ
  pub columns : List (Column B)

-- tables of so many columns without rows; the first row has number 1
unfoldable pub empty_store : (B : Type 0) → ℕ → Store B
empty_store B columns = record { rows = []; next = 1; columns = replicate columns (empty_column B) }

unfoldable pub empty_shelf : (B : Type 0) → ℕ → Shelf B
empty_shelf B columns = record { kept = []; next = 1; columns = replicate columns (empty_column B) }

-- ---- the same over other bodies

unfoldable pub map_row : {B C : Type 0} → (B → C) → Row B → Row C
map_row f row = record { number = row.number; cells = map f row.cells }

unfoldable pub map_store : {B C : Type 0} → (B → C) → Store B → Store C
map_store f t = record { rows = map (map_row f) t.rows; next = t.next; columns = map (map_column f) t.columns }

unfoldable pub map_kept : {B C : Type 0} → (B → C) → Kept B → Kept C
map_kept f row = record { number = row.number; bodies = map f row.bodies; ranks = row.ranks }

unfoldable pub map_shelf : {B C : Type 0} → (B → C) → Shelf B → Shelf C
map_shelf f s = record { kept = map (map_kept f) s.kept; next = s.next; columns = map (map_column f) s.columns }

-- ---- the shelf of a store

-- in each column the rank of a cell: how many of the column's values are smaller than its value
unfoldable pub ranks_by : {B : Type 0} → (B → ℕ) → List (Column B) → List B → List ℕ
ranks_by v [] cells = []
ranks_by v (c ∷ cs) [] = []
ranks_by v (c ∷ cs) (cell ∷ cells) = below (v cell) (values v (items_of c)) ∷ ranks_by v cs cells

unfoldable pub kept_of : {B : Type 0} → (B → ℕ) → List (Column B) → Row B → Kept B
kept_of v cs row = record { number = row.number; bodies = row.cells; ranks = ranks_by v cs row.cells }

-- the table by rank of a table by value, where v tells the value of a body
unfoldable pub shelf_of : {B : Type 0} → (B → ℕ) → Store B → Shelf B
shelf_of v t = record { kept = map (kept_of v t.columns) t.rows; next = t.next; columns = t.columns }
