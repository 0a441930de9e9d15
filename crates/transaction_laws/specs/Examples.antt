-- Worked examples: whole transactions over a table of one column, for every key. The world's exchanges are these, and the connection, which
-- has the sealed cells alone, gives the same replies.
use Rattle.std.specs.Prelude.{◌≡◌, ℕ, ◌-◌, ◌^◌, Bool, true, false, List, [], ◌∷◌, ◌++◌, map, None}
use Rattle.mope_base.specs.declared.body.Body.{Body}
use Rattle.mope_base.specs.declared.numbers.TableNo.{TableNo}
use Rattle.mope_base.specs.declared.numbers.ColNo.{ColNo}
use Rattle.sql_text.specs.declared.Test.{Test}
use Rattle.sql_text.specs.declared.Test.TheVariants as test
use Rattle.tree_model.specs.declared.Place.TheVariants.{Gap}
use Rattle.tree_model.specs.declared.Side.TheVariants.{Left, Right}
use Rattle.tree_model.specs.Columns.{empty_column}
use Rattle.table_model.specs.Stores.{Store, map_shelf, shelf_of}
use Rattle.value_cipher.specs.Cipher.{Cell, value_of, sealed}
use Rattle.versions.specs.Databases.{Database}
use Rattle.versions.specs.Operations.{rank_ops, with_ops}
use Rattle.versions.specs.declared.op.Op.TheVariants as op
use Rattle.walk_proto.specs.declared.messages.Asked.{Asked}
use Rattle.walk_proto.specs.declared.messages.Exchange.{Exchange}
use Rattle.walk_proto.specs.declared.messages.How.TheVariants as how
use Rattle.walk_proto.specs.declared.messages.Reply.TheVariants as reply
use Rattle.walk_proto.specs.declared.messages.Request.TheVariants as request
use Rattle.workload.specs.declared.script.Act.{Act}
use Rattle.workload.specs.declared.script.Act.TheVariants as act
use Rattle.workload.specs.declared.script.Answer.TheVariants as answer
use Rattle.workload.specs.declared.script.Verb.{Verb}
use Rattle.workload.specs.declared.script.Verb.TheVariants as verb
use Rattle.workload.specs.Transaction.{work_of}
use Rattle.proxy.specs.Client.{Setting}
use Rattle.server_conn.specs.Connections.{held_on, holds, begins, wants_begin, wants_commit, idle}
use Rattle.server_conn.specs.Logs.{Answers, conn_after}
use Rattle.server_conn.specs.Serving.{serve, began, step_to}
use Rattle.transaction_laws.specs.Walks.{exchanged}
use Rattle.transaction_laws.specs.Transactions.{Tried, tried_on, acts_tried, acts_log, kept_ops, conn_by, plain_database}

abbrev pub t : TableNo
t = record { 0 = 0 }

abbrev pub a : ColNo
a = record { 0 = 0 }

-- the first session, from nonce 0
abbrev pub first_session : List ℕ → Setting
first_session key = record { key = key; first = 0; session = record { 0 = 1 } }

abbrev pub insert : ℕ → Act
insert x = act.Insert t (x ∷ [])

abbrev pub ask : Verb → Test → Act
ask v x = act.Ask (record { table = t; verb = v; tests = (a, x) ∷ [] })

-- a statement with one condition as it is sent
abbrev pub asked : ℕ → List ℕ → ℕ → Asked
asked v columns op = record { table = t; verb = v; target = 0; order = 0; order_column = 0; limit = None; columns = columns; conds = (0, op) ∷ [] }

-- the body of a value, sealed after so many others
abbrev pub body : List ℕ → ℕ → ℕ → Body
body key count x = sealed key (record { nonce = count; value = x })

-- a table of one column without rows, whose next row has this number; and the version that stands for it
abbrev pub empty_from : ℕ → List (Store Cell)
empty_from next = record { rows = []; next = next; columns = empty_column Cell ∷ [] } ∷ []

abbrev pub version : List ℕ → Bool → List (Store Cell) → Database
version key same_time stores = record { number = 0; same_time = same_time; limit = 65536; shelves = map (map_shelf (sealed key)) (map (shelf_of value_of) stores); stamps = [] }

-- statements have these exchanges in the world; the connection gives their replies, and is afterwards as the world says: its tables, its
-- operations and the tables that were touched
pub record Exchanges (key : List ℕ) (same_time : Bool) (stores : List (Store Cell)) (acts : List Act) (log : List Exchange) : Type 0 where
  pub world : acts_log (first_session key) same_time acts (tried_on stores 0) ≡ log
  pub served : Answers (holds (held_on (version key same_time stores))) log
  pub conn : (let w : Tried = acts_tried (first_session key) same_time acts (tried_on stores 0) in conn_after (holds (held_on (version key same_time stores))) log ≡ conn_by key (version key same_time stores) stores w.plain w)

-- ---- a full table: the second INSERT finds no number left for its row; the transaction ends, and its last statement isn't sent

abbrev pub full_acts : List Act
full_acts = insert 7 ∷ insert 8 ∷ ask verb.Count (test.Eq 7) ∷ []

abbrev pub full_log : List ℕ → List Exchange
full_log key =
    exchanged (request.WalkStart t a) reply.Placed ∷ exchanged (request.Insert t (body key 0 7 ∷ [])) (reply.Count 1)
    ∷ exchanged (request.WalkStart t a) (reply.Node (body key 0 7)) ∷ exchanged (request.Go Right) reply.Placed ∷ exchanged (request.Insert t (body key 1 8 ∷ [])) (reply.No 0 0) ∷ []

pub record MeetsFull (key : List ℕ) : Type 0 where
  pub exchanges : Exchanges key false (empty_from (2 ^ 63 - 1)) full_acts (full_log key)
  pub answers : (work_of (acts_tried (first_session key) false full_acts (tried_on (empty_from (2 ^ 63 - 1)) 0)).plain).answers ≡ answer.Inserted ∷ []
  pub sealed_both : (acts_tried (first_session key) false full_acts (tried_on (empty_from (2 ^ 63 - 1)) 0)).seals ≡ 2

-- ---- BETWEEN a greater and a smaller constant gives no row, the other way about both

abbrev pub between_acts : List Act
between_acts = insert 1 ∷ insert 5 ∷ ask (verb.Rows (a ∷ []) None None) (test.Between 5 1) ∷ ask (verb.Rows (a ∷ []) None None) (test.Between 1 5) ∷ []

-- the walks for 1 and for 5
abbrev pub finds_one : List ℕ → List Exchange
finds_one key = exchanged (request.WalkStart t a) (reply.Node (body key 0 1)) ∷ exchanged request.Found reply.Placed ∷ []

abbrev pub finds_five : List ℕ → List Exchange
finds_five key = exchanged (request.WalkStart t a) (reply.Node (body key 0 1)) ∷ exchanged (request.Go Right) (reply.Node (body key 1 5)) ∷ exchanged request.Found reply.Placed ∷ []

abbrev pub between_log : List ℕ → List Exchange
between_log key =
    (exchanged (request.WalkStart t a) reply.Placed ∷ exchanged (request.Insert t (body key 0 1 ∷ [])) (reply.Count 1)
    ∷ exchanged (request.WalkStart t a) (reply.Node (body key 0 1)) ∷ exchanged (request.Go Right) reply.Placed ∷ exchanged (request.Insert t (body key 1 5 ∷ [])) (reply.Count 1) ∷ [])
    ++ (finds_five key ++ finds_one key ++ exchanged (request.Query (asked 0 (0 ∷ []) 5)) (reply.Rows 1 []) ∷ [])
    ++ (finds_one key ++ finds_five key ++ exchanged (request.Query (asked 0 (0 ∷ []) 5)) (reply.Rows 1 (body key 0 1 ∷ body key 1 5 ∷ [])) ∷ [])

pub record InvertedBetween (key : List ℕ) (same_time : Bool) : Type 0 where
  pub exchanges : Exchanges key same_time (empty_from 1) between_acts (between_log key)
  pub answers : (work_of (acts_tried (first_session key) same_time between_acts (tried_on (empty_from 1) 0)).plain).answers
      ≡ answer.Inserted ∷ answer.Inserted ∷ answer.Rows 1 [] ∷ answer.Rows 1 (1 ∷ 5 ∷ []) ∷ []
  pub kept : kept_ops key same_time (acts_tried (first_session key) same_time between_acts (tried_on (empty_from 1) 0)).ops (empty_from 1) ≡ op.Insert t (Gap 0 ∷ []) (body key 0 1 ∷ []) ∷ op.Insert t (Gap 1 ∷ []) (body key 1 5 ∷ []) ∷ []

-- ---- a walk for a value whose rows are deleted: in ordinary mode its item is still there, in same-time mode it has gone

abbrev pub deleted_acts : List Act
deleted_acts = insert 5 ∷ insert 3 ∷ insert 4 ∷ ask verb.Delete (test.Eq 3) ∷ ask verb.Count (test.Eq 3) ∷ []

-- up to the DELETE
abbrev pub deleted_log : List ℕ → List Exchange
deleted_log key =
    exchanged (request.WalkStart t a) reply.Placed ∷ exchanged (request.Insert t (body key 0 5 ∷ [])) (reply.Count 1)
    ∷ exchanged (request.WalkStart t a) (reply.Node (body key 0 5)) ∷ exchanged (request.Go Left) reply.Placed ∷ exchanged (request.Insert t (body key 1 3 ∷ [])) (reply.Count 1)
    ∷ exchanged (request.WalkStart t a) (reply.Node (body key 0 5)) ∷ exchanged (request.Go Left) (reply.Node (body key 1 3)) ∷ exchanged (request.Go Right) reply.Placed ∷ exchanged (request.Insert t (body key 2 4 ∷ [])) (reply.Count 1)
    ∷ exchanged (request.WalkStart t a) (reply.Node (body key 0 5)) ∷ exchanged (request.Go Left) (reply.Node (body key 1 3)) ∷ exchanged request.Found reply.Placed ∷ exchanged (request.Query (asked 4 [] 0)) (reply.Count 1) ∷ []

-- after it: the item of 3 stands there; or that of 4 has come into its place
abbrev pub stays_log : List ℕ → List Exchange
stays_log key =
    exchanged (request.WalkStart t a) (reply.Node (body key 0 5)) ∷ exchanged (request.Go Left) (reply.Node (body key 1 3)) ∷ exchanged request.Found reply.Placed ∷ exchanged (request.Query (asked 1 [] 0)) (reply.Count 0) ∷ []

abbrev pub gone_log : List ℕ → List Exchange
gone_log key =
    exchanged (request.WalkStart t a) (reply.Node (body key 0 5)) ∷ exchanged (request.Go Left) (reply.Node (body key 2 4)) ∷ exchanged (request.Go Left) reply.Placed ∷ exchanged (request.Query (asked 1 [] 0)) (reply.Count 0) ∷ []

pub record WalksOverDeleted (key : List ℕ) : Type 0 where
  pub ordinary : Exchanges key false (empty_from 1) deleted_acts (deleted_log key ++ stays_log key)
  pub same_time : Exchanges key true (empty_from 1) deleted_acts (deleted_log key ++ gone_log key)

-- ---- a DELETE of two rows takes one after the other: the item of the third row is found, in both modes at the root

abbrev pub two_acts : List Act
two_acts = insert 1 ∷ insert 2 ∷ insert 3 ∷ ask verb.Delete (test.Between 1 2) ∷ ask verb.Count (test.Ge 3) ∷ []

abbrev pub two_log : List ℕ → List Exchange
two_log key =
    exchanged (request.WalkStart t a) reply.Placed ∷ exchanged (request.Insert t (body key 0 1 ∷ [])) (reply.Count 1)
    ∷ exchanged (request.WalkStart t a) (reply.Node (body key 0 1)) ∷ exchanged (request.Go Right) reply.Placed ∷ exchanged (request.Insert t (body key 1 2 ∷ [])) (reply.Count 1)
    ∷ exchanged (request.WalkStart t a) (reply.Node (body key 0 1)) ∷ exchanged (request.Go Right) (reply.Node (body key 1 2)) ∷ exchanged (request.Go Right) reply.Placed ∷ exchanged (request.Insert t (body key 2 3 ∷ [])) (reply.Count 1)
    ∷ exchanged (request.WalkStart t a) (reply.Node (body key 0 1)) ∷ exchanged request.Found reply.Placed
    ∷ exchanged (request.WalkStart t a) (reply.Node (body key 0 1)) ∷ exchanged (request.Go Right) (reply.Node (body key 1 2)) ∷ exchanged request.Found reply.Placed ∷ exchanged (request.Query (asked 4 [] 5)) (reply.Count 2)
    ∷ exchanged (request.WalkStart t a) (reply.Node (body key 2 3)) ∷ exchanged request.Found reply.Placed ∷ exchanged (request.Query (asked 1 [] 4)) (reply.Count 1) ∷ []

abbrev pub DeletesTwo : List ℕ → Bool → Type 0
DeletesTwo key same_time = Exchanges key same_time (empty_from 1) two_acts (two_log key)

-- ---- the example of a view: 5 is put in, and a second transaction counts it between 1 and 9

abbrev pub put_acts : List Act
put_acts = insert 5 ∷ []

abbrev pub count_acts : List Act
count_acts = ask verb.Count (test.Between 1 9) ∷ []

abbrev pub put_log : List ℕ → List Exchange
put_log key = exchanged (request.WalkStart t a) reply.Placed ∷ exchanged (request.Insert t (body key 0 5 ∷ [])) (reply.Count 1) ∷ []

abbrev pub count_log : List ℕ → List Exchange
count_log key =
    exchanged (request.WalkStart t a) (reply.Node (body key 0 5)) ∷ exchanged (request.Go Left) reply.Placed
    ∷ exchanged (request.WalkStart t a) (reply.Node (body key 0 5)) ∷ exchanged (request.Go Right) reply.Placed ∷ exchanged (request.Query (asked 1 [] 5)) (reply.Count 1) ∷ []

abbrev pub first_version : List ℕ → Database
first_version key = version key false (empty_from 1)

-- the world's transaction that puts it in
abbrev pub put_in : List ℕ → Tried
put_in key = acts_tried (first_session key) false put_acts (tried_on (empty_from 1) 0)

-- the version that its commit makes
abbrev pub next_version : List ℕ → Database
next_version key = with_ops (rank_ops (kept_ops key false (put_in key).ops (empty_from 1))) (first_version key)

-- both transactions, from begin to end: the exchanges that hold turns, and all others
pub record ExampleView (key : List ℕ) : Type 0 where
  pub waits : serve request.Begin idle ≡ record { served = wants_begin; conn = begins }
  pub begins_first : began (first_version key) ≡ step_to (reply.Ended how.Began 0 0) (holds (held_on (first_version key)))
  pub put : Exchanges key false (empty_from 1) put_acts (put_log key)
  pub commits_as : (serve (request.End true) (conn_after (holds (held_on (first_version key))) (put_log key))).served ≡ wants_commit
  pub begins_second : began (next_version key) ≡ step_to (reply.Ended how.Began 0 1) (holds (held_on (next_version key)))
  pub counts : acts_log (first_session key) false count_acts (tried_on (put_in key).stores 1) ≡ count_log key
  pub served : Answers (holds (held_on (next_version key))) (count_log key ++ exchanged (request.End true) (reply.Ended how.Closed 0 1) ∷ [])
  pub answers : (work_of (acts_tried (first_session key) false count_acts (tried_on (put_in key).stores 1)).plain).answers ≡ answer.Count 1 ∷ []
