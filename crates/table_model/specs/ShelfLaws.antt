-- A table by value and its table by rank are one, and nothing by rank looks at bodies: the statements of laws that this crate's
-- functions without a body prove.
use Rattle.std.specs.Prelude.{◌≡◌, ℕ, Bool, List, map}
use Rattle.tree_model.specs.declared.Place.{Place}
use Rattle.table_model.specs.Stores.{Store, Shelf, empty_store, empty_shelf, map_store, map_shelf, shelf_of}
use Rattle.table_model.specs.Steps.{places_by, map_steps}
use Rattle.table_model.specs.Changes.{insert_row, delete_row, delete_rows, delete_steps, lay_column, insert_cells, delete_number, delete_numbers, lay_store}
use Rattle.table_model.specs.Soundness.{Sound}

-- ---- by value is by rank

-- the shelf after an operation by value is the operation by rank on the shelf before it
pub record IsByRank (B : Type 0) (v : B → ℕ) (same_time : Bool) (t : Store B) : Type 0 where
  pub inserts : (cells : List B) → shelf_of v (insert_cells same_time v cells t) ≡ insert_row same_time (places_by v t.columns cells) cells (shelf_of v t)
  pub deletes : (number : ℕ) → shelf_of v (delete_number same_time v number t) ≡ delete_row same_time number (shelf_of v t)
  pub deletes_each : (numbers : List ℕ) → shelf_of v (delete_numbers same_time v numbers t) ≡ delete_rows same_time numbers (shelf_of v t)
  pub lays : (column : ℕ) → shelf_of v (lay_store same_time column t) ≡ lay_column same_time column (shelf_of v t)

abbrev pub ValuesAreRanks : Type 0 → Type 0
ValuesAreRanks B = (v : B → ℕ) (same_time : Bool) (limit : ℕ) (t : Store B) → Sound B v same_time limit t → IsByRank B v same_time t

abbrev pub EmptyShelf : Type 0 → Type 0
EmptyShelf B = (v : B → ℕ) (columns : ℕ) → shelf_of v (empty_store B columns) ≡ empty_shelf B columns

-- ---- nothing looks at bodies

-- an operation on mapped bodies is the mapped operation
pub record IsBlind (B C : Type 0) (f : B → C) (same_time : Bool) (s : Shelf B) : Type 0 where
  pub inserts : (places : List Place) (bodies : List B) → insert_row same_time places (map f bodies) (map_shelf f s) ≡ map_shelf f (insert_row same_time places bodies s)
  pub deletes : (number : ℕ) → delete_row same_time number (map_shelf f s) ≡ map_shelf f (delete_row same_time number s)
  pub deletes_each : (numbers : List ℕ) → delete_rows same_time numbers (map_shelf f s) ≡ map_shelf f (delete_rows same_time numbers s)
  pub delete_steps_are : (numbers : List ℕ) → delete_steps same_time numbers (map_shelf f s) ≡ map (map_steps f) (delete_steps same_time numbers s)
  pub lays : (column : ℕ) → lay_column same_time column (map_shelf f s) ≡ map_shelf f (lay_column same_time column s)

abbrev pub ShelvesAreBlind : Type 0 → Type 0 → Type 0
ShelvesAreBlind B C = (f : B → C) (same_time : Bool) (s : Shelf B) → IsBlind B C f same_time s

-- by value, where the mapped cells tell the values
pub record MapsStore (B C : Type 0) (f : B → C) (v : C → ℕ) (same_time : Bool) (t : Store B) : Type 0 where
  pub shelf : shelf_of v (map_store f t) ≡ map_shelf f (shelf_of (λ b. v (f b)) t)
  pub places : (cells : List B) → places_by v (map_store f t).columns (map f cells) ≡ places_by (λ b. v (f b)) t.columns cells
  pub inserts : (cells : List B) → insert_cells same_time v (map f cells) (map_store f t) ≡ map_store f (insert_cells same_time (λ b. v (f b)) cells t)
  pub deletes : (number : ℕ) → delete_number same_time v number (map_store f t) ≡ map_store f (delete_number same_time (λ b. v (f b)) number t)
  pub deletes_each : (numbers : List ℕ) → delete_numbers same_time v numbers (map_store f t) ≡ map_store f (delete_numbers same_time (λ b. v (f b)) numbers t)
  pub lays : (column : ℕ) → lay_store same_time column (map_store f t) ≡ map_store f (lay_store same_time column t)

abbrev pub StoresMap : Type 0 → Type 0 → Type 0
StoresMap B C = (f : B → C) (v : C → ℕ) (same_time : Bool) (t : Store B) → MapsStore B C f v same_time t

-- two maps one after the other are their composition, and a map that changes no body changes no table
pub record MapsCompose (A B C : Type 0) (f : B → C) (g : A → B) : Type 0 where
  pub shelves : (s : Shelf A) → map_shelf f (map_shelf g s) ≡ map_shelf (λ a. f (g a)) s
  pub stores : (t : Store A) → map_store f (map_store g t) ≡ map_store (λ a. f (g a)) t

abbrev pub TablesCompose : Type 0 → Type 0 → Type 0 → Type 0
TablesCompose A B C = (f : B → C) (g : A → B) → MapsCompose A B C f g

pub record MapsNothing (B : Type 0) : Type 0 where
  pub shelves : (s : Shelf B) → map_shelf (λ b. b) s ≡ s
  pub stores : (t : Store B) → map_store (λ b. b) t ≡ t

abbrev pub SoundIsBlind : Type 0 → Type 0 → Type 0
SoundIsBlind B C = (f : B → C) (v : C → ℕ) (same_time : Bool) (limit : ℕ) (t : Store B) → Sound B (λ b. v (f b)) same_time limit t → Sound C v same_time limit (map_store f t)
