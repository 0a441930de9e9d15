-- What is true of the fields of every table, and what the operations on rows do to each stored column.
use Rattle.std.specs.Prelude.{◌≡◌, ℕ, ◌<◌, ◌≤◌, Bool, List, [], ◌∷◌, ◌++◌, length, map, get_or, Some, slice_get}
use Rattle.mope_base.specs.declared.body.Body.{Body}
use Rattle.tree_model.specs.declared.Place.{Place}
use Rattle.tree_model.specs.declared.Place.TheVariants.{Found}
use Rattle.tree_model.specs.Columns.{Operation, Lay}
use Rattle.path_code.specs.Sums.{Sum, sum_of}
use Rattle.enc_table.specs.declared.cell.Cell.{Cell}
use Rattle.enc_table.specs.declared.columns.Column.{Column as Stored}
use Rattle.enc_table.specs.declared.stamps.Stamps.{Stamps}
use Rattle.enc_table.specs.Rows.{no_body}
use Rattle.enc_table.specs.Seen.{Seen, IsTable}
use Rattle.enc_table.specs.Stored.{stored_at, shelf_in, bodies_in, ranks_in}
use Rattle.enc_table.specs.Held.{IsHeld, HasBecome, FitsAdd, IsAdded, FitsDrop, IsDropped, IsLaid, drop_at}

abbrev pub place_at : List Place → ℕ → Place
place_at places column = get_or places column (Found 0)

abbrev pub body_of : List Body → ℕ → Body
body_of bodies column = get_or bodies column no_body

-- each column agrees with the numbers of the rows
pub record AreHeld (numbers : List ℕ) (columns : List Stored) : Type 0 where
  pub each : (i : ℕ) → i < length columns → IsHeld numbers (stored_at columns i)

-- what is seen of a table with these fields
abbrev pub seen_in : Bool → ℕ → Stamps → ℕ → List ℕ → List Stored → Bool → Seen
seen_in same_time limit stamps next numbers columns spent = record { shelf = shelf_in numbers next columns; same_time = same_time; limit = limit; stamps = stamps; spent = spent }

-- it is a table, and each of its columns agrees with the numbers of its rows
pub record AreFields (same_time : Bool) (limit : ℕ) (stamps : Stamps) (next : ℕ) (numbers : List ℕ) (columns : List Stored) (spent : Bool) : Type 0 where
  pub table : IsTable (seen_in same_time limit stamps next numbers columns spent)
  pub held : AreHeld numbers columns

-- ---- one row more in each column

pub record FitAdds (numbers : List ℕ) (number : ℕ) (places : List Place) (columns : List Stored) : Type 0 where
  pub each : (i : ℕ) → i < length columns → FitsAdd numbers number (place_at places i) (stored_at columns i)

pub record AreAdded (same_time : Bool) (numbers : List ℕ) (number : ℕ) (places : List Place) (bodies : List Body) (before after : List Stored) : Type 0 where
  pub each : (i : ℕ) → i < length before → IsAdded same_time numbers number (place_at places i) (body_of bodies i) (stored_at before i) (stored_at after i)

-- ---- one row fewer in each column: the numbers are those of the others

pub record FitDrops (same_time : Bool) (numbers : List ℕ) (position number : ℕ) (columns : List Stored) : Type 0 where
  pub each : (i : ℕ) → i < length columns → FitsDrop same_time numbers position number (stored_at columns i)

pub record AreDropped (same_time : Bool) (numbers : List ℕ) (position : ℕ) (before after : List Stored) : Type 0 where
  pub each : (i : ℕ) → i < length before → IsDropped same_time numbers position (stored_at before i) (stored_at after i)

-- what the drop of the row at a position does to the codes of each column
unfoldable pub drop_sums : Bool → ℕ → List Stored → List Sum
drop_sums same_time position columns = map (λ c. sum_of same_time (drop_at c position) c.tree.column) columns

-- each list with one more at its end
unfoldable pub after_each : {A : Type 0} → List (List A) → List A → List (List A)
after_each [] xs = []
after_each (list ∷ lists) [] = list ∷ lists
after_each (list ∷ lists) (x ∷ xs) = (list ++ x ∷ []) ∷ after_each lists xs

-- ---- a copy

-- the other columns agree with the same numbers, and have the same trees, bodies and ranks
pub record AreCopied (numbers : List ℕ) (before after : List Stored) : Type 0 where
  pub each : (i : ℕ) → i < length before → HasBecome numbers (stored_at before i).tree.column (bodies_in (stored_at before i)) (ranks_in (stored_at before i)) (stored_at after i)

-- ---- a look-up

-- the cell in a column of the row of a number
pub record IsCellOf (numbers : List ℕ) (columns : List Stored) (row column : ℕ) (cell : Cell) : Type 0 where
  pub position : ℕ
  pub there : slice_get numbers position ≡ Some row
  pub within : column < length columns
  pub is : slice_get (stored_at columns column).cells position ≡ Some cell
