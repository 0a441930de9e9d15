-- When a table by rank stands for a table by value, whose cells are sealed on it.
use Rattle.std.specs.Prelude.{◌≡◌, ℕ, Bool, List, map}
use Rattle.table_model.specs.Stores.{Store, Shelf, map_shelf, shelf_of}
use Rattle.table_model.specs.Soundness.{Sound}
use Rattle.table_model.specs.Operations.{AllSound}

-- the shelf is the store's with each cell sealed, and the store is sound; v tells the value of a cell
pub record Stands (B C : Type 0) (seal : C → B) (v : C → ℕ) (same_time : Bool) (limit : ℕ) (table : Shelf B) (t : Store C) : Type 0 where
  pub same : table ≡ map_shelf seal (shelf_of v t)
  pub sound : Sound C v same_time limit t

-- several tables: each shelf is its store's with each cell sealed, and the stores are sound
pub record AllStand (B C : Type 0) (seal : C → B) (v : C → ℕ) (same_time : Bool) (limit : ℕ) (shelves : List (Shelf B)) (stores : List (Store C)) : Type 0 where
  pub same : shelves ≡ map (map_shelf seal) (map (shelf_of v) stores)
  pub sound : AllSound v same_time limit stores
