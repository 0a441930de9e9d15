-- A request to a connection, wherever it stands.
use Rattle.std.proofs.Common.{◌≡◌, ℕ, Bool, true, false, Option, Some, None, Result, Ok, Err, IfOk, OnOk, IsOk, refl, ap, sym, subst, ◌∙◌}
use Rattle.walk_proto.specs.declared.messages.How.TheVariants as how
use Rattle.walk_proto.specs.declared.messages.Reply.TheVariants as reply
use Rattle.walk_proto.specs.declared.messages.Request.{Request}
use Rattle.server_conn.specs.declared.came.Due.{Due as Turn}
use Rattle.server_conn.specs.declared.receipt.Served.{Served as Answered}
use Rattle.server_conn.specs.declared.receipt.Served.TheVariants as answered
use Rattle.server_conn.specs.declared.stage.Stage.{Stage}
use Rattle.server_conn.specs.declared.stage.Stage.TheVariants as stage
use Rattle.server_conn.specs.declared.txn.Txn.{Txn}
use Rattle.server_conn.specs.Connections.{Held, Conn, Step, idle, begins, holds, awaits}
use Rattle.server_conn.specs.Handling.{handed, receipt_for, IsReady}
use Rattle.server_conn.specs.Inside.{held_in, conn_in, due_of, IsTxn, IsStage}
use Rattle.server_conn.specs.Serving.{step_to, served_idle, serve}

-- ---- without a transaction

pub idle-served : (s : Stage) (r : Request) (a : Answered) → s ≡ stage.Idle → a ≡ handed r (served_idle r).served → a ≡ handed r (serve r (conn_in s)).served
unfolding serve conn_in
idle-served s r a is gives = gives ∙ sym (ap (λ (k : Stage). handed r (serve r (conn_in k)).served) is)

pub idle-conn : (s : Stage) (r : Request) (k : Conn) → s ≡ stage.Idle → k ≡ (served_idle r).conn → k ≡ (serve r (conn_in s)).conn
unfolding serve conn_in
idle-conn s r k is gives = gives ∙ sym (ap (λ (u : Stage). (serve r (conn_in u)).conn) is)

-- ---- while a turn is awaited

pub begins-served : (s : Stage) (r : Request) (a : Answered) → s ≡ stage.Begins → a ≡ answered.Reply (receipt_for (Some r) (reply.No 2 0)) → a ≡ handed r (serve r (conn_in s)).served
unfolding serve conn_in step_to handed
begins-served s r a is gives = gives ∙ sym (ap (λ (k : Stage). handed r (serve r (conn_in k)).served) is)

pub begins-conn : (s : Stage) (r : Request) → s ≡ stage.Begins → conn_in stage.Begins ≡ (serve r (conn_in s)).conn
unfolding serve conn_in step_to
begins-conn s r is = sym (ap (λ (u : Stage). (serve r (conn_in u)).conn) is)

pub awaits-served : (s : Stage) (t : Txn) (due : Turn) (r : Request) (a : Answered) → s ≡ stage.Awaits t due → a ≡ answered.Reply (receipt_for (Some r) (reply.No 2 0)) → a ≡ handed r (serve r (conn_in s)).served
unfolding serve conn_in step_to handed
awaits-served s t due r a is gives = gives ∙ sym (ap (λ (k : Stage). handed r (serve r (conn_in k)).served) is)

pub awaits-conn : (s : Stage) (t : Txn) (due : Turn) (r : Request) → s ≡ stage.Awaits t due → conn_in (stage.Awaits t due) ≡ (serve r (conn_in s)).conn
unfolding serve conn_in step_to
awaits-conn s t due r is = sym (ap (λ (u : Stage). (serve r (conn_in u)).conn) is)

pub same-stage : (s u : Stage) → s ≡ u → IsStage s → IsStage u
same-stage s u is good = subst IsStage is good

-- ---- with a transaction

pub holds-txn : (s : Stage) (t : Txn) → s ≡ stage.Holds t → IsStage s → IsTxn t
unfolding IsStage
holds-txn s t is good = subst IsStage is good

pub holds-conn : (s : Stage) (t : Txn) → s ≡ stage.Holds t → holds (held_in t) ≡ conn_in s
unfolding conn_in
holds-conn s t is = sym (ap conn_in is)

-- what is said of the one connection is said of the other
pub served-at : {E : Type 0} (r : Request) (j k : Conn) (a : Result (Stage × Answered) E) → j ≡ k → IfOk a (λ (next : Stage × Answered). next.1 ≡ handed r (serve r j).served) → IfOk a (λ (next : Stage × Answered). next.1 ≡ handed r (serve r k).served)
served-at r j k a same is = subst (λ (u : Conn). IfOk a (λ (next : Stage × Answered). next.1 ≡ handed r (serve r u).served)) same is

pub conn-at : {E : Type 0} (r : Request) (j k : Conn) (a : Result (Stage × Answered) E) → j ≡ k → IfOk a (λ (next : Stage × Answered). conn_in next.0 ≡ (serve r j).conn) → IfOk a (λ (next : Stage × Answered). conn_in next.0 ≡ (serve r k).conn)
conn-at r j k a same is = subst (λ (u : Conn). IfOk a (λ (next : Stage × Answered). conn_in next.0 ≡ (serve r u).conn)) same is

pub step-served : (r : Request) (s u : Step) (a : Answered) → a ≡ handed r s.served → s ≡ u → a ≡ handed r u.served
step-served r s u a is same = is ∙ ap (λ (k : Step). handed r k.served) same

pub step-conn : (s u : Step) (k : Conn) → k ≡ s.conn → s ≡ u → k ≡ u.conn
step-conn s u k is same = is ∙ ap (λ (i : Step). i.conn) same
