-- Worked examples: the statements that this crate's functions without a body compute.
use Rattle.std.specs.Prelude.{◌≡◌, ℕ, true, false, List, [], ◌∷◌, None}
use Rattle.mope_base.specs.declared.body.Body.{Body}
use Rattle.mope_base.specs.declared.numbers.TableNo.{TableNo}
use Rattle.mope_base.specs.declared.numbers.ColNo.{ColNo}
use Rattle.tree_model.specs.declared.Place.TheVariants.{Gap}
use Rattle.tree_model.specs.declared.Side.TheVariants.{Left, Right}
use Rattle.table_model.specs.Operations.{InsertAt}
use Rattle.versions.specs.Databases.{Database, first_database}
use Rattle.versions.specs.Operations.{with_ops}
use Rattle.walk_proto.specs.declared.messages.Asked.{Asked}
use Rattle.walk_proto.specs.declared.messages.How.TheVariants as how
use Rattle.walk_proto.specs.declared.messages.Reply.{Reply}
use Rattle.walk_proto.specs.declared.messages.Reply.TheVariants as reply
use Rattle.walk_proto.specs.declared.messages.Request.{Request}
use Rattle.walk_proto.specs.declared.messages.Request.TheVariants as request
use Rattle.server_conn.specs.Connections.{Conn, idle, begins, holds, held_on, Served, replies, wants_begin, wants_commit, Step}
use Rattle.server_conn.specs.Serving.{serve, began, ended, step_to}

abbrev pub t : TableNo
t = record { 0 = 0 }

abbrev pub a : ColNo
a = record { 0 = 0 }

-- one table of one column without rows, in ordinary mode, with room for so many rows
abbrev pub one_column : ℕ → Database
one_column limit = first_database (1 ∷ []) false limit

-- the connection after requests that were served without a turn, and the replies to them
pub record Run : Type 0 where
  pub replied : List Served
  pub conn : Conn

unfoldable pub after_step : Step → Run → Run
after_step step rest = record { replied = step.served ∷ rest.replied; conn = rest.conn }

unfoldable pub serve_all : List Request → Conn → Run
serve_all [] k = record { replied = []; conn = k }
serve_all (r ∷ requests) k = after_step (serve r k) (serve_all requests (serve r k).conn)

abbrev pub says : Reply → Served
says r = replies r

abbrev pub counting : Asked
counting = record { table = t; verb = 1; target = 0; order = 0; order_column = 0; limit = None; columns = []; conds = (0, 5) ∷ [] }

abbrev pub deleting : Asked
deleting = record { table = t; verb = 4; target = 0; order = 0; order_column = 0; limit = None; columns = []; conds = (0, 0) ∷ [] }

-- without a transaction a step of a walk and its end are refused, and nothing changes
pub record NoTransaction : Type 0 where
  pub go : serve (request.Go Left) idle ≡ step_to (reply.No 1 0) idle
  pub found : serve request.Found idle ≡ step_to (reply.No 1 0) idle

-- one INSERT into an empty table, and its commit; then a COUNT between two constants that enclose the value
pub record CountsOne (b : Body) : Type 0 where
  pub begin : serve request.Begin idle ≡ record { served = wants_begin; conn = begins }
  pub began_on : began (one_column 65536) ≡ step_to (reply.Ended how.Began 0 0) (holds (held_on (one_column 65536)))
  pub insert : (serve_all (request.WalkStart t a ∷ request.Insert t (b ∷ []) ∷ request.End true ∷ []) (holds (held_on (one_column 65536)))).replied ≡ says reply.Placed ∷ says (reply.Count 1) ∷ wants_commit ∷ []
  pub committed : ended how.Committed 0 1 ≡ step_to (reply.Ended how.Committed 0 1) idle
  pub count : (serve_all (request.WalkStart t a ∷ request.Go Left ∷ request.WalkStart t a ∷ request.Go Right ∷ request.Query counting ∷ request.End true ∷ []) (holds (held_on (with_ops (InsertAt 0 (Gap 0 ∷ []) (b ∷ []) ∷ []) (one_column 65536))))).replied
      ≡ says (reply.Node b) ∷ says reply.Placed ∷ says (reply.Node b) ∷ says reply.Placed ∷ says (reply.Count 1) ∷ says (reply.Ended how.Closed 0 1) ∷ []

-- a full table ends the transaction, and the connection is idle
abbrev pub FullTable : Body → Type 0
FullTable b = serve_all (request.WalkStart t a ∷ request.Insert t (b ∷ []) ∷ request.Found ∷ []) (holds (held_on (one_column 0))) ≡ record { replied = says reply.Placed ∷ says (reply.No 0 0) ∷ says (reply.No 1 0) ∷ []; conn = idle }

-- a DELETE by an equal value takes the row, whose item is left without rows in ordinary mode, and is one operation
pub record DeletesOne (b : Body) : Type 0 where
  pub replies_are : (serve_all (request.WalkStart t a ∷ request.Found ∷ request.Query deleting ∷ request.End true ∷ []) (holds (held_on (with_ops (InsertAt 0 (Gap 0 ∷ []) (b ∷ []) ∷ []) (one_column 65536))))).replied
      ≡ says (reply.Node b) ∷ says reply.Placed ∷ says (reply.Count 1) ∷ wants_commit ∷ []

-- a refusal leaves a transaction as it is: a walk in another table, a step without a walk, a selection without its places, an INSERT
-- without its place, and a BEGIN
pub record Refuses (b : Body) : Type 0 where
  pub each : serve_all (request.WalkStart (record { 0 = 1 }) a ∷ request.WalkStart t (record { 0 = 1 }) ∷ request.Go Left ∷ request.Found ∷ request.Query counting ∷ request.Insert t (b ∷ []) ∷ request.Begin ∷ []) (holds (held_on (one_column 9)))
      ≡ record { replied = says (reply.No 5 0) ∷ says (reply.No 6 0) ∷ says (reply.No 4 0) ∷ says (reply.No 4 0) ∷ says (reply.No 7 0) ∷ says (reply.No 7 0) ∷ says (reply.No 2 0) ∷ []; conn = holds (held_on (one_column 9)) }
