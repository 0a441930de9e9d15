-- The exchanges by which a client finds the places of the constants of a statement, where the connection's tables stand for those of a
-- world: tables by value, whose cells the connection has sealed.
use Rattle.std.specs.Prelude.{◌≡◌, ℕ, ◌+◌, ◌<◌, ◌≤◌, ◌^◌, List, [], ◌∷◌, ◌++◌, length, get_or, None}
use Rattle.mope_base.specs.Lists.{Each}
use Rattle.mope_base.specs.declared.body.Body.{Body}
use Rattle.mope_base.specs.declared.numbers.TableNo.{TableNo}
use Rattle.mope_base.specs.declared.numbers.ColNo.{ColNo}
use Rattle.tree_model.specs.declared.Place.{Place}
use Rattle.tree_model.specs.Places.{place}
use Rattle.tree_model.specs.Items.{values}
use Rattle.tree_model.specs.Columns.{items_of}
use Rattle.table_model.specs.Stores.{Store, empty_store}
use Rattle.table_model.specs.Soundness.{column_at}
use Rattle.table_model.specs.Standing.{AllStand}
use Rattle.value_cipher.specs.Cipher.{Cell, value_of, sealed}
use Rattle.walk_proto.specs.declared.messages.Exchange.{Exchange}
use Rattle.walk_proto.specs.declared.messages.Request.TheVariants as request
use Rattle.proxy.specs.Client.{Setting, Client}
use Rattle.proxy.specs.Tasks.{Task, looks_then}
use Rattle.server_conn.specs.Connections.{Mark, Held, holds}
use Rattle.server_conn.specs.Checks.{most_marks}
use Rattle.transaction_laws.specs.Meetings.{Meets, doing}
use Rattle.transaction_laws.specs.Walks.{walk_log}

-- a table of a world
unfoldable pub store_at : List (Store Cell) → TableNo → Store Cell
store_at stores t = get_or stores t.0 (empty_store Cell 0)

-- a transaction has these tables, with each cell sealed
pub record Shows (key : List ℕ) (stores : List (Store Cell)) (h : Held) : Type 0 where
  pub stand : AllStand Body Cell (sealed key) value_of h.base.same_time h.base.limit h.shelves stores
  pub low : h.base.limit ≤ 2 ^ 31

-- the exchanges of walks for some constants in a table, one after the other
unfoldable pub walks_log : List ℕ → TableNo → List (ColNo × ℕ) → Store Cell → List Exchange
walks_log key t [] store = []
walks_log key t (constant ∷ constants) store = walk_log key constant.1 (request.WalkStart t constant.0) (column_at store.columns constant.0.0).tree ++ walks_log key t constants store

-- the place of a value in a column of a table
unfoldable pub place_of : Store Cell → ColNo × ℕ → Place
place_of store constant = place (values value_of (items_of (column_at store.columns constant.0.0))) constant.1

-- the places that they find
unfoldable pub marks_for : TableNo → List (ColNo × ℕ) → Store Cell → List Mark
marks_for t [] store = []
marks_for t (constant ∷ constants) store = record { table = t.0; column = constant.0.0; place = place_of store constant } ∷ marks_for t constants store

-- the transaction with these places more, and no walk open
unfoldable pub with_marks : List Mark → Held → Held
with_marks marks h = record h { marks = h.marks ++ marks; walk = None }

-- a client that looks for constants of a statement finds the place of each among the values of its column
abbrev pub ConstantsMeet : Type 0
ConstantsMeet = (s : Setting) (t : TableNo) (constants : List (ColNo × ℕ)) (later : List Task) (stores : List (Store Cell)) (c : Client) (h : Held)
    → Shows s.key stores h → h.walk ≡ None → t.0 < length stores → Each (λ (constant : ColNo × ℕ). constant.0.0 < length (store_at stores t).columns) constants → length h.marks + length constants ≤ most_marks
    → Meets s (doing (looks_then t constants later) c) (holds h) (walks_log s.key t constants (store_at stores t)) (doing later c) (holds (with_marks (marks_for t constants (store_at stores t)) h))
