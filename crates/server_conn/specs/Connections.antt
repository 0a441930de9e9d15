-- What a connection is between two messages. The definition is our own.
use Rattle.std.specs.Prelude.{ℕ, List, [], Option, None}
use Rattle.mope_base.specs.declared.body.Body.{Body}
use Rattle.mope_base.specs.declared.numbers.TableNo.{TableNo}
use Rattle.mope_base.specs.declared.numbers.ColNo.{ColNo}
use Rattle.tree_model.specs.declared.Place.{Place}
use Rattle.tree_model.specs.Trees.{Tree}
use Rattle.tree_model.specs.Items.{Item}
use Rattle.table_model.specs.Stores.{Shelf}
use Rattle.walk_proto.specs.declared.messages.Reply.{Reply}
use Rattle.versions.specs.declared.op.Op.{Op}
use Rattle.versions.specs.Databases.{Database}

-- a place that a walk found in a column of a table
pub record Mark : Type 0 where
  pub table : ℕ
  pub column : ℕ
  pub place : Place

-- an open walk: its column, how many of the column's items stand before the part of the tree that it has come to, and this part
pub record Walk : Type 0 where
  pub table : ℕ
  pub column : ℕ
  pub before : ℕ
  pub part : Tree (Item Body)

-- a transaction: the version that it began on; its own tables, which are that version's until it writes to them; the tables that its
-- statements named; its operations; the places that walks found since its last statement; and the walk that is open
pub record Held : Type 0 where
  pub base : Database
  pub shelves : List (Shelf Body)
  pub touched : List TableNo
  pub ops : List Op
  pub marks : List Mark
  pub walk : Option Walk

-- the turn that a transaction waits for at its end
pub data Due : Type 0 where
  commit : Due
  install : TableNo → ColNo → Due

-- a connection has no transaction; or waits for the begin turn of one; or has one; or waits for its last turn
pub data Conn : Type 0 where
  idle : Conn
  begins : Conn
  holds : Held → Conn
  awaits : Held → Due → Conn

-- what comes of a request: a reply at once, or a turn that has to be taken first
pub data Served : Type 0 where
  replies : Reply → Served
  wants_begin : Served
  wants_commit : Served
  wants_install : TableNo → ColNo → Served

-- that, and the connection afterwards
pub record Step : Type 0 where
  pub served : Served
  pub conn : Conn

-- a transaction at its begin
unfoldable pub held_on : Database → Held
held_on d = record { base = d; shelves = d.shelves; touched = []; ops = []; marks = []; walk = None }
