-- What the tables of a program that keeps its rules always are, and when two of them differ by the balance of their trees alone.
use Rattle.std.specs.Prelude.{◌≡◌, ℕ, ◌+◌, ◌/◌, ◌^◌, ◌<◌, ◌≤◌, Bool, List, [], ◌∷◌, ◌++◌, length, map, get_or}
use Rattle.tree_model.specs.declared.Place.TheVariants.{Found}
use Rattle.tree_model.specs.Trees.{size, height}
use Rattle.tree_model.specs.Places.{place, below, IsIncreasing}
use Rattle.tree_model.specs.Items.{values}
use Rattle.tree_model.specs.Columns.{Column, empty_column, items_of}
use Rattle.tree_model.specs.ColumnLaws.{IsKept, SuitsMode}
use Rattle.tree_model.specs.Tallies.{counts, TalliedItems}
use Rattle.table_model.specs.Stores.{Row, Store, Kept}

unfoldable pub numbers_of : {B : Type 0} → List (Row B) → List ℕ
numbers_of rows = map (λ row. row.number) rows

unfoldable pub kept_numbers : {B : Type 0} → List (Kept B) → List ℕ
kept_numbers kept = map (λ row. row.number) kept

-- the value of a row in a column, and 0 where the row has no such cell
unfoldable pub cell_value : {B : Type 0} → (B → ℕ) → ℕ → Row B → ℕ
cell_value v column row = get_or (map v row.cells) column 0

-- the values of the rows in a column
unfoldable pub column_values : {B : Type 0} → (B → ℕ) → ℕ → List (Row B) → List ℕ
column_values v column rows = map (cell_value v column) rows

-- of a table by rank: the ranks of the rows in a column, and what their bodies read as
unfoldable pub ranks_at : {B : Type 0} → ℕ → List (Kept B) → List ℕ
ranks_at column kept = map (λ row. get_or row.ranks column 0) kept

unfoldable pub readings_at : {B : Type 0} → (B → ℕ) → ℕ → List (Kept B) → List ℕ
readings_at u column kept = map (λ row. get_or (map u row.bodies) column 0) kept

unfoldable pub column_at : {B : Type 0} → List (Column B) → ℕ → Column B
column_at {B} cs column = get_or cs column (empty_column B)

-- each row has so many cells
unfoldable pub AllWide : {B : Type 0} → ℕ → List (Row B) → Type 0
AllWide width [] = Unit {0}
AllWide width (row ∷ rows) = (length row.cells ≡ width) × AllWide width rows

-- a column beside the values that the rows have in it: the values of the items increase, each row's value is one of them, each item's
-- count is the number of rows with its value, no item is too deep, enough items are live, and it is as the mode leaves it
pub record SoundColumn (B : Type 0) (v : B → ℕ) (same_time : Bool) (c : Column B) (rows : List ℕ) : Type 0 where
  pub tallied : TalliedItems v (items_of c) rows
  pub kept : IsKept B c
  pub suits : SuitsMode same_time c

-- there are at most so many rows, their numbers increase and the next one is above them, each has one cell for each column, and each
-- column is sound
pub record Sound (B : Type 0) (v : B → ℕ) (same_time : Bool) (limit : ℕ) (t : Store B) : Type 0 where
  pub few : length t.rows ≤ limit
  pub numbered : IsIncreasing (numbers_of t.rows ++ t.next ∷ [])
  pub wide : AllWide (length t.columns) t.rows
  pub columns : (column : ℕ) → column < length t.columns → SoundColumn B v same_time (column_at t.columns column) (column_values v column t.rows)

-- a column never had more items than this, and each way in its tree has at most so many steps
pub record IsLow (B : Type 0) (c : Column B) (items steps : ℕ) : Type 0 where
  pub most : c.most ≤ items
  pub ways : height c.tree ≤ steps

-- what a limit of rows gives for a column: at most half as many items again, no item with more rows, and a low tree
pub record FitsRows (B : Type 0) (limit : ℕ) (c : Column B) : Type 0 where
  pub items : size c.tree ≤ c.most
  pub most : c.most ≤ limit + limit / 2
  pub counted : (rank : ℕ) → get_or (counts (items_of c)) rank 0 ≤ limit
  pub many : limit ≤ 65536 → IsLow B c 98304 29
  pub more : limit ≤ 1048576 → IsLow B c 1572864 36
  pub any : limit ≤ 2 ^ 31 → height c.tree ≤ 63

-- the item of a row in a column, for a value x of the row: it stands at the rank of x, and reads as x
pub record OwnItem (B : Type 0) (v : B → ℕ) (c : Column B) (x d : ℕ) : Type 0 where
  pub within : below x (values v (items_of c)) < size c.tree
  pub reads : get_or (values v (items_of c)) (below x (values v (items_of c))) d ≡ x
  pub found : place (values v (items_of c)) x ≡ Found (below x (values v (items_of c)))

-- two tables with the same rows and items, whose trees may have other forms
pub record Same (B : Type 0) (t u : Store B) : Type 0 where
  pub rows : t.rows ≡ u.rows
  pub next : t.next ≡ u.next
  pub items : map items_of t.columns ≡ map items_of u.columns
