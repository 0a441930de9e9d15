-- An INSERT, once the places of its values are found.
use Rattle.std.specs.Prelude.{◌≡◌, ℕ, ◌+◌, ◌<◌, ◌≤◌, ◌^◌, List, [], ◌∷◌, ◌++◌, map, length, None, ◌⊎◌}
use Rattle.mope_base.specs.declared.numbers.TableNo.{TableNo}
use Rattle.table_model.specs.Stores.{Store}
use Rattle.table_model.specs.Steps.{places_by}
use Rattle.table_model.specs.Changes.{insert_row}
use Rattle.table_model.specs.Operations.{InsertCells, op_on}
use Rattle.value_cipher.specs.Cipher.{Cell, value_of, sealed}
use Rattle.versions.specs.declared.op.Op.TheVariants as op
use Rattle.walk_proto.specs.declared.messages.Reply.TheVariants as reply
use Rattle.walk_proto.specs.declared.messages.Request.{Request}
use Rattle.walk_proto.specs.declared.messages.Request.TheVariants as request
use Rattle.workload.specs.declared.script.Answer.TheVariants as answer
use Rattle.workload.specs.declared.script.End.TheVariants as end
use Rattle.proxy.specs.Client.{Setting, Client, cells_from, sealing, ending}
use Rattle.proxy.specs.Tasks.{Task, puts_row, values_from}
use Rattle.server_conn.specs.Connections.{Held, idle, holds}
use Rattle.server_conn.specs.Serving.{after_statement, with_op}
use Rattle.transaction_laws.specs.Meetings.{Meets, doing}
use Rattle.transaction_laws.specs.Walks.{exchanged}
use Rattle.transaction_laws.specs.Constants.{store_at, Shows, marks_for}

-- the cells of its values
unfoldable pub cells_of_row : Setting → Client → List ℕ → List Cell
cells_of_row s c xs = cells_from s c.seals xs

unfoldable pub insert_request : Setting → TableNo → List ℕ → Client → Request
insert_request s t xs c = request.Insert t (map (sealed s.key) (cells_of_row s c xs))

-- the client with its values sealed and its answer
unfoldable pub having_inserted : List ℕ → Client → Client
having_inserted xs c = record c { seals = c.seals + length xs; answers = c.answers ++ answer.Inserted ∷ [] }

-- the transaction after it: the sealed cells are a row more at the places of their values
unfoldable pub with_row : List ℕ → TableNo → List Cell → Store Cell → Held → Held
with_row key t cells store h =
    after_statement t (with_op (op.Insert t (places_by value_of store.columns cells) (map (sealed key) cells)) t (insert_row h.base.same_time (places_by value_of store.columns cells) (map (sealed key) cells)) h)

-- a client is about to insert a row of as many values as the table has columns, and the connection has the places of these values
pub record MayInsert (s : Setting) (t : TableNo) (xs : List ℕ) (stores : List (Store Cell)) (h : Held) : Type 0 where
  pub shows : Shows s.key stores h
  pub closed : h.walk ≡ None
  pub there : t.0 < length stores
  pub wide : length xs ≡ length (store_at stores t).columns
  pub narrow : length xs ≤ 8
  pub marks : h.marks ≡ marks_for t (values_from 0 xs) (store_at stores t)

-- there is room: the row goes into the world's table and, sealed, into the transaction's, which stands for it again
pub record InsertGoes (s : Setting) (t : TableNo) (xs : List ℕ) (later : List Task) (stores : List (Store Cell)) (c : Client) (h : Held) : Type 0 where
  pub meets : Meets s (doing (puts_row t xs ∷ later) c) (holds h) (exchanged (insert_request s t xs c) (reply.Count 1) ∷ []) (doing later (having_inserted xs c)) (holds (with_row s.key t (cells_of_row s c xs) (store_at stores t) h))
  pub shows : Shows s.key (op_on h.base.same_time value_of (InsertCells t.0 (cells_of_row s c xs)) stores) (with_row s.key t (cells_of_row s c xs) (store_at stores t) h)

abbrev pub InsertMeets : Type 0
InsertMeets = (s : Setting) (t : TableNo) (xs : List ℕ) (later : List Task) (stores : List (Store Cell)) (c : Client) (h : Held) → MayInsert s t xs stores h → length (store_at stores t).rows < h.base.limit → (store_at stores t).next < 2 ^ 63
    → InsertGoes s t xs later stores c h

-- there is none: the transaction ends on both sides
abbrev pub FullMeets : Type 0
FullMeets = (s : Setting) (t : TableNo) (xs : List ℕ) (later : List Task) (stores : List (Store Cell)) (c : Client) (h : Held) → MayInsert s t xs stores h → (h.base.limit ≤ length (store_at stores t).rows) ⊎ (2 ^ 63 ≤ (store_at stores t).next)
    → Meets s (doing (puts_row t xs ∷ later) c) (holds h) (exchanged (insert_request s t xs c) (reply.No 0 t.0) ∷ []) (ending s (end.Full t) (sealing xs c)) idle
