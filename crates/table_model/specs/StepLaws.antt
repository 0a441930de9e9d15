-- The lists of operations that each column goes through: the statements of laws that this crate's functions without a body prove.
use Rattle.std.specs.Prelude.{◌≡◌, ℕ, Bool, List, [], ◌∷◌, map}
use Rattle.tree_model.specs.declared.Place.{Place}
use Rattle.tree_model.specs.Columns.{Column, Operation, Lay}
use Rattle.table_model.specs.Stores.{Shelf, map_shelf}
use Rattle.table_model.specs.Steps.{operate, then_steps, all_steps, adds, drops, only, map_steps}
use Rattle.table_model.specs.Changes.{insert_row, delete_row, delete_rows, delete_steps, ranks_of, lay_column}
use Rattle.table_model.specs.Operations.{RankOp, rank_ops_on, map_rank_op, shelf_at, ops_steps}

-- lists one after the other are these on the columns after those
abbrev pub StepsCompose : Type 0 → Type 0
StepsCompose B = (same_time : Bool) (earlier later : List (List (Operation B))) (cs : List (Column B)) → operate same_time (then_steps earlier later) cs ≡ operate same_time later (operate same_time earlier cs)

-- the columns after an operation on a table are those before it after the operation's lists
pub record ColumnsAfter (B : Type 0) (same_time : Bool) (s : Shelf B) : Type 0 where
  pub inserted : (places : List Place) (bodies : List B) → (insert_row same_time places bodies s).columns ≡ operate same_time (adds places bodies) s.columns
  pub deleted : (number : ℕ) → (delete_row same_time number s).columns ≡ operate same_time (drops (ranks_of number s.kept)) s.columns
  pub deleted_each : (numbers : List ℕ) → (delete_rows same_time numbers s).columns ≡ operate same_time (all_steps (delete_steps same_time numbers s)) s.columns
  pub laid : (column : ℕ) → (lay_column same_time column s).columns ≡ operate same_time (only column (Lay ∷ [])) s.columns

abbrev pub TablesByColumns : Type 0 → Type 0
TablesByColumns B = (same_time : Bool) (s : Shelf B) → ColumnsAfter B same_time s

-- the columns of a table after operations on several are those before them after the lists of those on this table
abbrev pub OpsByColumns : Type 0 → Type 0
OpsByColumns B = (same_time : Bool) (table : ℕ) (ops : List (RankOp B)) (shelves : List (Shelf B)) → (shelf_at (rank_ops_on same_time ops shelves) table).columns ≡ operate same_time (ops_steps same_time table ops shelves) (shelf_at shelves table).columns

-- and these lists don't look at bodies
abbrev pub StepsAreBlind : Type 0 → Type 0 → Type 0
StepsAreBlind B C = (f : B → C) (same_time : Bool) (table : ℕ) (ops : List (RankOp B)) (shelves : List (Shelf B)) → ops_steps same_time table (map (map_rank_op f) ops) (map (map_shelf f) shelves) ≡ map_steps f (ops_steps same_time table ops shelves)
