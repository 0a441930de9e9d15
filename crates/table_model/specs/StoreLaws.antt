-- What the operations on a table by value keep: the statements of laws that this crate's functions without a body prove.
use Rattle.std.specs.Prelude.{◌≡◌, ℕ, ◌<◌, Bool, not, List, length, get_or, filter}
use Rattle.tree_model.specs.Places.{holds}
use Rattle.table_model.specs.Stores.{Store, empty_store, ranks_by}
use Rattle.table_model.specs.Steps.{places_by}
use Rattle.table_model.specs.Changes.{insert_cells, delete_number, delete_numbers, lay_store}
use Rattle.table_model.specs.Soundness.{column_values, column_at, Sound, FitsRows, OwnItem, Same}

-- ---- sound tables

-- a table without rows is sound, and each operation leaves a sound table sound; an INSERT where there are fewer rows than the limit
abbrev pub EmptyIsSound : Type 0 → Type 0
EmptyIsSound B = (v : B → ℕ) (same_time : Bool) (limit columns : ℕ) → Sound B v same_time limit (empty_store B columns)

pub record StaysSound (B : Type 0) (v : B → ℕ) (same_time : Bool) (limit : ℕ) (t : Store B) : Type 0 where
  pub inserts : (cells : List B) → length cells ≡ length t.columns → length t.rows < limit → Sound B v same_time limit (insert_cells same_time v cells t)
  pub deletes : (number : ℕ) → Sound B v same_time limit (delete_number same_time v number t)
  pub deletes_each : (numbers : List ℕ) → Sound B v same_time limit (delete_numbers same_time v numbers t)
  pub lays : (column : ℕ) → Sound B v same_time limit (lay_store same_time column t)

abbrev pub OperationsKeepSound : Type 0 → Type 0
OperationsKeepSound B = (v : B → ℕ) (same_time : Bool) (limit : ℕ) (t : Store B) → Sound B v same_time limit t → StaysSound B v same_time limit t

-- after a DELETE the rows are those of other numbers, in their order, and no number is used again
pub record DeletesThese (B : Type 0) (v : B → ℕ) (same_time : Bool) (numbers : List ℕ) (t : Store B) : Type 0 where
  pub rows : (delete_numbers same_time v numbers t).rows ≡ filter (λ row. not (holds row.number numbers)) t.rows
  pub next : (delete_numbers same_time v numbers t).next ≡ t.next

abbrev pub DeleteTakesRows : Type 0 → Type 0
DeleteTakesRows B = (v : B → ℕ) (same_time : Bool) (limit : ℕ) (numbers : List ℕ) (t : Store B) → Sound B v same_time limit t → DeletesThese B v same_time numbers t

-- ---- what follows

-- each column has at most half as many items again as the limit has rows, and a low tree
abbrev pub SoundFitsRows : Type 0 → Type 0
SoundFitsRows B = (v : B → ℕ) (same_time : Bool) (limit : ℕ) (t : Store B) (column : ℕ) → Sound B v same_time limit t → column < length t.columns → FitsRows B limit (column_at t.columns column)

-- each row has an item of its own in each column
abbrev pub RowsOwnItems : Type 0 → Type 0
RowsOwnItems B = (v : B → ℕ) (same_time : Bool) (limit : ℕ) (t : Store B) (column row d : ℕ) → Sound B v same_time limit t → column < length t.columns → row < length t.rows → OwnItem B v (column_at t.columns column) (get_or (column_values v column t.rows) row 0) d

-- ---- tables that differ by balancing alone

pub record AreSame (B : Type 0) (v : B → ℕ) (same_time : Bool) (t u : Store B) : Type 0 where
  pub places : (cells : List B) → places_by v t.columns cells ≡ places_by v u.columns cells
  pub ranks : (cells : List B) → ranks_by v t.columns cells ≡ ranks_by v u.columns cells
  pub inserts : (cells : List B) → Same B (insert_cells same_time v cells t) (insert_cells same_time v cells u)
  pub deletes : (number : ℕ) → Same B (delete_number same_time v number t) (delete_number same_time v number u)
  pub deletes_each : (numbers : List ℕ) → Same B (delete_numbers same_time v numbers t) (delete_numbers same_time v numbers u)
  pub lays : (column : ℕ) → Same B (lay_store same_time column t) (lay_store same_time column u)

abbrev pub SameBehaves : Type 0 → Type 0
SameBehaves B = (v : B → ℕ) (same_time : Bool) (limit : ℕ) (t u : Store B) → Sound B v same_time limit t → Sound B v same_time limit u → Same B t u → AreSame B v same_time t u

-- an install leaves the same table, and to be the same is an equivalence
pub record SameIsEquivalence (B : Type 0) : Type 0 where
  pub laid : (same_time : Bool) (column : ℕ) (t : Store B) → Same B (lay_store same_time column t) t
  pub reflexive : (t : Store B) → Same B t t
  pub symmetric : (t u : Store B) → Same B t u → Same B u t
  pub transitive : (t u w : Store B) → Same B t u → Same B u w → Same B t w
