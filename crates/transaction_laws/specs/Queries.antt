-- A statement that asks, once the places of its constants are found.
use Rattle.std.specs.Prelude.{◌≡◌, ℕ, ◌≤◌, ◌^◌, List, [], ◌∷◌, ◌++◌, map, flat_map, length, get_or, None}
use Rattle.mope_base.specs.declared.body.Body.{Body}
use Rattle.mope_base.specs.declared.numbers.TableNo.{TableNo}
use Rattle.mope_base.specs.declared.numbers.ColNo.{ColNo}
use Rattle.table_model.specs.Stores.{Row, Store}
use Rattle.table_model.specs.Soundness.{cell_value, numbers_of}
use Rattle.table_model.specs.Operations.{ValueOp, DeleteRows, ops_on}
use Rattle.enc_table.specs.Rows.{no_body}
use Rattle.value_cipher.specs.Cipher.{Cell, value_of, sealed}
use Rattle.walk_proto.specs.declared.messages.Reply.{Reply}
use Rattle.walk_proto.specs.declared.messages.Reply.TheVariants as reply
use Rattle.walk_proto.specs.declared.messages.Request.{Request}
use Rattle.walk_proto.specs.declared.messages.Request.TheVariants as request
use Rattle.workload.specs.declared.script.Act.TheVariants as act
use Rattle.workload.specs.declared.script.Ask.{Ask}
use Rattle.workload.specs.declared.script.Decl.{Decl}
use Rattle.workload.specs.declared.script.Verb.{Verb}
use Rattle.workload.specs.declared.script.Verb.TheVariants as verb
use Rattle.workload.specs.Selection.{selected, answer_about}
use Rattle.workload.specs.Validity.{IsValidAct}
use Rattle.proxy.specs.Client.{Setting, Client}
use Rattle.proxy.specs.Tasks.{Task, asks, constants_all, asked_of}
use Rattle.server_conn.specs.Connections.{Held, holds}
use Rattle.server_conn.specs.Serving.{after_statement, without_numbers}
use Rattle.transaction_laws.specs.Meetings.{Meets, doing}
use Rattle.transaction_laws.specs.Walks.{exchanged}
use Rattle.transaction_laws.specs.Constants.{store_at, Shows, marks_for}

-- the tables of a world are as many as are declared, and as wide
abbrev pub AreDeclared : List Decl → List (Store Cell) → Type 0
AreDeclared tables stores = map (λ (store : Store Cell). length store.columns) stores ≡ map (λ (d : Decl). length d.columns) tables

-- a row of a world read by values
unfoldable pub cell_at : ColNo → Row Cell → ℕ
cell_at column row = cell_value value_of column.0 row

-- the rows of a table that a statement is about
unfoldable pub rows_about : Ask → Store Cell → List (Row Cell)
rows_about ask store = selected cell_at ask store.rows

-- the cells of a row in these columns, sealed
unfoldable pub bodies_of : List ℕ → List ColNo → Row Cell → List Body
bodies_of key columns row = map (λ (column : ColNo). get_or (map (sealed key) row.cells) column.0 no_body) columns

-- the reply about rows of a world: cells of theirs, sealed, or how many they are
unfoldable pub reply_with : List ℕ → Verb → List (Row Cell) → Reply
reply_with key (verb.Rows columns order limit) rows = reply.Rows (length columns) (flat_map (bodies_of key columns) rows)
reply_with key verb.Count rows = reply.Count (length rows)
reply_with key (verb.Min column) rows = reply.Rows 1 (flat_map (bodies_of key (column ∷ [])) rows)
reply_with key (verb.Max column) rows = reply.Rows 1 (flat_map (bodies_of key (column ∷ [])) rows)
reply_with key verb.Delete rows = reply.Count (length rows)

unfoldable pub query_request : Ask → Request
query_request ask = request.Query (asked_of ask)

-- the client with the plain answer about rows of a world
unfoldable pub having_asked : Verb → List (Row Cell) → Client → Client
having_asked v rows c = record c { answers = c.answers ++ answer_about cell_at v rows ∷ [] }

-- rows of these numbers go out of a table by one operation, where there are some
unfoldable pub rows_out : TableNo → List ℕ → List (ValueOp Cell)
rows_out t [] = []
rows_out t (number ∷ numbers) = DeleteRows t.0 (number ∷ numbers) ∷ []

-- what a verb does to a world by value, about rows of these numbers
unfoldable pub ops_about : Verb → TableNo → List ℕ → List (ValueOp Cell)
ops_about (verb.Rows columns order limit) t numbers = []
ops_about verb.Count t numbers = []
ops_about (verb.Min column) t numbers = []
ops_about (verb.Max column) t numbers = []
ops_about verb.Delete t numbers = rows_out t numbers

-- and to a transaction
unfoldable pub done_about : Verb → TableNo → List ℕ → Held → Held
done_about (verb.Rows columns order limit) t numbers h = h
done_about verb.Count t numbers h = h
done_about (verb.Min column) t numbers h = h
done_about (verb.Max column) t numbers h = h
done_about verb.Delete t numbers h = without_numbers t numbers h

-- the transaction after a statement about rows of a world
unfoldable pub with_asked : Ask → List (Row Cell) → Held → Held
with_asked ask rows h = after_statement ask.table (done_about ask.verb ask.table (numbers_of rows) h)

-- a client is about to ask by a valid statement, and the connection has the places of its constants
pub record MayAsk (s : Setting) (tables : List Decl) (ask : Ask) (stores : List (Store Cell)) (h : Held) : Type 0 where
  pub shows : Shows s.key stores h
  pub closed : h.walk ≡ None
  pub declared : AreDeclared tables stores
  pub valid : IsValidAct tables (act.Ask ask)
  pub few : h.base.limit ≤ 2 ^ 20
  pub marks : h.marks ≡ marks_for ask.table (constants_all ask.tests) (store_at stores ask.table)

-- the reply is about the rows that the statement is about by value, with their cells sealed; the client has the plain answer; the
-- rows of a DELETE go out of the world's table and out of the transaction's, which stands for it again
pub record QueryGoes (s : Setting) (ask : Ask) (later : List Task) (stores : List (Store Cell)) (rows : List (Row Cell)) (c : Client) (h : Held) : Type 0 where
  pub meets : Meets s (doing (asks ask ∷ later) c) (holds h) (exchanged (query_request ask) (reply_with s.key ask.verb rows) ∷ []) (doing later (having_asked ask.verb rows c)) (holds (with_asked ask rows h))
  pub shows : Shows s.key (ops_on h.base.same_time value_of (ops_about ask.verb ask.table (numbers_of rows)) stores) (with_asked ask rows h)

abbrev pub QueryMeets : Type 0
QueryMeets = (s : Setting) (tables : List Decl) (ask : Ask) (later : List Task) (stores : List (Store Cell)) (c : Client) (h : Held) → MayAsk s tables ask stores h → QueryGoes s ask later stores (rows_about ask (store_at stores ask.table)) c h
