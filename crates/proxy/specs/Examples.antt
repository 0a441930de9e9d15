-- Worked examples: the exchanges of small scripts over a table of one column, for every key.
use Rattle.std.specs.Prelude.{◌≡◌, ℕ, Bool, true, false, List, [], ◌∷◌, Some, None}
use Rattle.mope_base.specs.declared.body.Body.{Body}
use Rattle.mope_base.specs.declared.numbers.TableNo.{TableNo}
use Rattle.mope_base.specs.declared.numbers.ColNo.{ColNo}
use Rattle.tree_model.specs.declared.Side.TheVariants.{Left, Right}
use Rattle.sql_text.specs.declared.Test.TheVariants as test
use Rattle.value_cipher.specs.Cipher.{seal_of}
use Rattle.walk_proto.specs.declared.messages.Asked.{Asked}
use Rattle.walk_proto.specs.declared.messages.Exchange.{Exchange}
use Rattle.walk_proto.specs.declared.messages.How.TheVariants as how
use Rattle.walk_proto.specs.declared.messages.Reply.{Reply}
use Rattle.walk_proto.specs.declared.messages.Reply.TheVariants as reply
use Rattle.walk_proto.specs.declared.messages.Request.{Request}
use Rattle.walk_proto.specs.declared.messages.Request.TheVariants as request
use Rattle.workload.specs.declared.script.Act.TheVariants as act
use Rattle.workload.specs.declared.script.Answer.{Answer}
use Rattle.workload.specs.declared.script.Answer.TheVariants as answer
use Rattle.workload.specs.declared.script.DoneTxn.{DoneTxn}
use Rattle.workload.specs.declared.script.End.{End}
use Rattle.workload.specs.declared.script.End.TheVariants as end
use Rattle.workload.specs.declared.script.Piece.{Piece}
use Rattle.workload.specs.declared.script.Piece.TheVariants as piece
use Rattle.workload.specs.declared.script.Verb.TheVariants as verb
use Rattle.proxy.specs.Client.{Setting, starts}
use Rattle.proxy.specs.Talk.{Talk, AllAllowed, HasEnded, client_after, transactions}

abbrev pub t : TableNo
t = record { 0 = 0 }

abbrev pub a : ColNo
a = record { 0 = 0 }

-- the first session of a run from nonce 0
abbrev pub first_session : List ℕ → Setting
first_session key = record { key = key; first = 0; session = record { 0 = 1 } }

abbrev pub exchange : Request → Reply → Exchange
exchange r q = record { request = r; reply = q }

abbrev pub ended : ℕ → ℕ → End → List Answer → DoneTxn
ended place base e answers =
    record { session = record { 0 = 1 }; place = place; base = base; end = e; answers = answers }

-- a script's exchanges are these, all replies are allowed, and its transactions are these
pub record Gives (key : List ℕ) (script : List Piece) (log : List Exchange) (txns : List DoneTxn) : Type 0 where
  pub talk : Talk (first_session key) (starts script) log
  pub allows : AllAllowed (first_session key) (starts script) log
  pub all_ended : HasEnded (first_session key) (client_after (first_session key) (starts script) log)
  pub gives : transactions (first_session key) script log ≡ txns

-- a count of the rows whose value lies between the places found
abbrev pub count_between : Asked
count_between = record {
  table = t;
  verb = 1;
  target = 0;
  order = 0;
  order_column = 0;
  limit = None;
  columns = [];
  conds = (0, 5) ∷ [];
}

-- 5 is put in, and then counted between 1 and 9
abbrev pub InsertThenCount : Type 0
InsertThenCount =
    (key : List ℕ) → let five : Body = seal_of key 0 5 in
    Gives key
    (piece.Txn (act.Insert t (5 ∷ []) ∷ []) false
    ∷ piece.Txn (act.Ask (record { table = t; verb = verb.Count; tests = (a, test.Between 1 9) ∷ [] }) ∷ []) false ∷ [])
    (exchange request.Begin (reply.Ended how.Began 0 0)
    ∷ exchange (request.WalkStart t a) reply.Placed
    ∷ exchange (request.Insert t (five ∷ [])) (reply.Count 1)
    ∷ exchange (request.End true) (reply.Ended how.Committed 0 1)
    ∷ exchange request.Begin (reply.Ended how.Began 0 1)
    ∷ exchange (request.WalkStart t a) (reply.Node five)
    ∷ exchange (request.Go Left) reply.Placed
    ∷ exchange (request.WalkStart t a) (reply.Node five)
    ∷ exchange (request.Go Right) reply.Placed
    ∷ exchange (request.Query count_between) (reply.Count 1)
    ∷ exchange (request.End true) (reply.Ended how.Closed 0 1) ∷ [])
    (ended 1 0 (end.Committed 1) (answer.Inserted ∷ [])
    ∷ ended 2 1 end.Read (answer.Count 1 ∷ []) ∷ [])

-- a full table takes no row: nothing more of the transaction is sent, and the next one begins
abbrev pub FullTable : Type 0
FullTable =
    (key : List ℕ) → Gives key
    (piece.Txn (act.Insert t (5 ∷ []) ∷ act.Insert t (6 ∷ []) ∷ []) false ∷ piece.Txn [] true ∷ [])
    (exchange request.Begin (reply.Ended how.Began 0 7)
    ∷ exchange (request.WalkStart t a) reply.Placed
    ∷ exchange (request.Insert t (seal_of key 0 5 ∷ [])) (reply.No 0 0)
    ∷ exchange request.Begin (reply.Ended how.Began 0 7)
    ∷ exchange (request.End false) (reply.Ended how.Closed 0 7) ∷ [])
    (ended 1 7 (end.Full t) [] ∷ ended 2 7 end.RolledBack [] ∷ [])

-- a transaction that finds its value and is rolled back; its second seal has the second nonce
abbrev pub RolledBack : Type 0
RolledBack =
    (key : List ℕ) → Gives key
    (piece.Txn (act.Insert t (5 ∷ []) ∷ act.Insert t (5 ∷ []) ∷ []) true ∷ [])
    (exchange request.Begin (reply.Ended how.Began 0 0)
    ∷ exchange (request.WalkStart t a) reply.Placed
    ∷ exchange (request.Insert t (seal_of key 0 5 ∷ [])) (reply.Count 1)
    ∷ exchange (request.WalkStart t a) (reply.Node (seal_of key 0 5))
    ∷ exchange request.Found reply.Placed
    ∷ exchange (request.Insert t (seal_of key 1 5 ∷ [])) (reply.Count 1)
    ∷ exchange (request.End false) (reply.Ended how.Closed 0 0) ∷ [])
    (ended 1 0 end.RolledBack (answer.Inserted ∷ answer.Inserted ∷ []) ∷ [])

-- a tree is rebuilt, and then a commit came before
abbrev pub Rebuilds : Type 0
Rebuilds =
    (key : List ℕ) → Gives key
    (piece.Rebuild t a ∷ piece.Rebuild t a ∷ [])
    (exchange request.Begin (reply.Ended how.Began 0 3)
    ∷ exchange (request.Rebuild t a) (reply.Ended how.Installed 0 4)
    ∷ exchange request.Begin (reply.Ended how.Began 0 4)
    ∷ exchange (request.Rebuild t a) (reply.Ended how.Stale 0 5) ∷ [])
    (ended 1 3 (end.Installed 4) [] ∷ ended 2 4 (end.Stale t 5) [] ∷ [])
