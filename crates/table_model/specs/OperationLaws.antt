-- Operations on several tables: the statements of laws that this crate's functions without a body prove.
use Rattle.std.specs.Prelude.{◌≡◌, ℕ, Bool, List, map}
use Rattle.table_model.specs.Stores.{Store, Shelf, map_store, map_shelf, shelf_of}
use Rattle.table_model.specs.Operations.{ValueOp, RankOp, ops_on, rank_ops_on, install_on, rank_install_on, placed_ops, map_op, map_rank_op, AllSound, AllSame}
use Rattle.table_model.specs.Fitting.{AllFit, AllFitAt}

-- operations by value that fit leave sound tables sound, and are on their shelves the operations by rank, which fit
pub record AreByRank (B : Type 0) (v : B → ℕ) (same_time : Bool) (limit : ℕ) (ops : List (ValueOp B)) (stores : List (Store B)) : Type 0 where
  pub sound : AllSound v same_time limit (ops_on same_time v ops stores)
  pub fit : AllFitAt same_time limit (placed_ops same_time v ops stores) (map (shelf_of v) stores)
  pub shelves : map (shelf_of v) (ops_on same_time v ops stores) ≡ rank_ops_on same_time (placed_ops same_time v ops stores) (map (shelf_of v) stores)

abbrev pub OpsAreByRank : Type 0 → Type 0
OpsAreByRank B = (v : B → ℕ) (same_time : Bool) (limit : ℕ) (ops : List (ValueOp B)) (stores : List (Store B)) → AllSound v same_time limit stores → AllFit same_time v limit ops stores → AreByRank B v same_time limit ops stores

-- no operation looks at bodies: by rank, and by value where the mapped cells tell the values
pub record OpsAreBlind (B C : Type 0) (f : B → C) (v : C → ℕ) (same_time : Bool) : Type 0 where
  pub by_rank : (ops : List (RankOp B)) (shelves : List (Shelf B)) → rank_ops_on same_time (map (map_rank_op f) ops) (map (map_shelf f) shelves) ≡ map (map_shelf f) (rank_ops_on same_time ops shelves)
  pub by_value : (ops : List (ValueOp B)) (stores : List (Store B)) → ops_on same_time v (map (map_op f) ops) (map (map_store f) stores) ≡ map (map_store f) (ops_on same_time (λ b. v (f b)) ops stores)
  pub placed : (ops : List (ValueOp B)) (stores : List (Store B)) → placed_ops same_time v (map (map_op f) ops) (map (map_store f) stores) ≡ map (map_rank_op f) (placed_ops same_time (λ b. v (f b)) ops stores)
  pub fit : (limit : ℕ) (ops : List (RankOp B)) (shelves : List (Shelf B)) → AllFitAt same_time limit ops shelves → AllFitAt same_time limit (map (map_rank_op f) ops) (map (map_shelf f) shelves)

abbrev pub OperationsAreBlind : Type 0 → Type 0 → Type 0
OperationsAreBlind B C = (f : B → C) (v : C → ℕ) (same_time : Bool) → OpsAreBlind B C f v same_time

-- on tables that differ by balancing alone operations fit, place and do the same
pub record AllDoSame (B : Type 0) (v : B → ℕ) (same_time : Bool) (limit : ℕ) (ops : List (ValueOp B)) (stores others : List (Store B)) : Type 0 where
  pub fit : AllFit same_time v limit ops others
  pub placed : placed_ops same_time v ops stores ≡ placed_ops same_time v ops others
  pub same : AllSame (ops_on same_time v ops stores) (ops_on same_time v ops others)

abbrev pub OpsOnSame : Type 0 → Type 0
OpsOnSame B = (v : B → ℕ) (same_time : Bool) (limit : ℕ) (ops : List (ValueOp B)) (stores others : List (Store B)) → AllSound v same_time limit stores → AllSound v same_time limit others → AllSame stores others → AllFit same_time v limit ops stores → AllDoSame B v same_time limit ops stores others

-- an install leaves sound tables sound and the same but for balance, and is on their shelves the install by rank
pub record Installs (B : Type 0) (v : B → ℕ) (same_time : Bool) (limit table column : ℕ) (stores : List (Store B)) : Type 0 where
  pub sound : AllSound v same_time limit (install_on same_time table column stores)
  pub same : AllSame (install_on same_time table column stores) stores
  pub shelves : map (shelf_of v) (install_on same_time table column stores) ≡ rank_install_on same_time table column (map (shelf_of v) stores)

abbrev pub InstallsAreByRank : Type 0 → Type 0
InstallsAreByRank B = (v : B → ℕ) (same_time : Bool) (limit table column : ℕ) (stores : List (Store B)) → AllSound v same_time limit stores → Installs B v same_time limit table column stores

abbrev pub InstallsAreBlind : Type 0 → Type 0 → Type 0
InstallsAreBlind B C = (f : B → C) (same_time : Bool) (table column : ℕ) (shelves : List (Shelf B)) → rank_install_on same_time table column (map (map_shelf f) shelves) ≡ map (map_shelf f) (rank_install_on same_time table column shelves)
