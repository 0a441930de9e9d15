-- What stays of a version in a later one.
use Rattle.std.specs.Prelude.{◌≡◌, ℕ, suc, ◌≤◌, List, length, map, take}
use Rattle.mope_base.specs.declared.body.Body.{Body}
use Rattle.tree_model.specs.Columns.{items_of}
use Rattle.table_model.specs.Stores.{Shelf}
use Rattle.table_model.specs.Operations.{shelf_at}
use Rattle.versions.specs.declared.turn.Turn.{Turn}
use Rattle.versions.specs.Databases.{Database, stamps_at}
use Rattle.versions.specs.Turns.{replay, Replays}

-- two tables by rank with the same rows and items, whose trees may have other forms
pub record SameShelf (B : Type 0) (s u : Shelf B) : Type 0 where
  pub kept : s.kept ≡ u.kept
  pub next : s.next ≡ u.next
  pub items : map items_of s.columns ≡ map items_of u.columns

-- a later version has as many tables, of the same mode and limit, and a table that wasn't written since is the same but for balance
pub record IsSince (base current : Database) : Type 0 where
  pub mode : base.same_time ≡ current.same_time
  pub rows : base.limit ≡ current.limit
  pub as_many : length base.shelves ≡ length current.shelves
  pub later : base.number ≤ current.number
  pub unwritten : (table : ℕ) → (stamps_at current.stamps table).written ≤ base.number → SameShelf Body (shelf_at base.shelves table) (shelf_at current.shelves table)

-- what is true of every state
pub record IsCourse (first : Database) (turns : List Turn) (current : Database) : Type 0 where
  pub replays : Replays first turns current
  pub low : current.number ≤ suc (length turns)
  pub since : (taken : ℕ) → taken ≤ length turns → IsSince (replay (take taken turns) first) current
