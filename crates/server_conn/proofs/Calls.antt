-- The calls of a connection.
use Rattle.std.proofs.Common.{◌≡◌, ℕ, Bool, true, false, Option, Some, None, Result, Ok, Err, IfOk, OnOk, IfSome, IsOk, IsErr, IsSome, refl, ap, sym, subst, ◌∙◌, ◌↔◌}
use Rattle.versions.specs.Databases.{Database}
use Rattle.walk_proto.specs.Laws.{IsReadAs}
use Rattle.walk_proto.specs.Shapes.{fault_in}
use Rattle.walk_proto.specs.declared.faults.WireStop.{WireStop}
use Rattle.walk_proto.specs.declared.faults.WireStop.TheVariants.{Short, Kind, Length, Value, OutOfMemory}
use Rattle.walk_proto.specs.declared.messages.How.{How}
use Rattle.walk_proto.specs.declared.messages.How.TheVariants as how
use Rattle.walk_proto.specs.declared.messages.Reply.{Reply}
use Rattle.walk_proto.specs.declared.messages.Reply.TheVariants as reply
use Rattle.walk_proto.specs.declared.messages.Request.{Request}
use Rattle.walk_proto.specs.declared.messages.Request.TheVariants as request
use Rattle.server_conn.specs.declared.came.Due.{Due as Turn}
use Rattle.server_conn.specs.declared.receipt.Receipt.{Receipt}
use Rattle.server_conn.specs.declared.receipt.Served.{Served as Answered}
use Rattle.server_conn.specs.declared.receipt.Served.TheVariants as answered
use Rattle.server_conn.specs.declared.stage.Stage.{Stage}
use Rattle.server_conn.specs.declared.stage.Stage.TheVariants as stage
use Rattle.server_conn.specs.declared.txn.Txn.{Txn}
use Rattle.server_conn.specs.Connections.{Held, Conn, Step, idle, begins, holds, awaits, held_on}
use Rattle.server_conn.specs.Handling.{Seen, running, spent_conn, handed, handed_fault, receipt_for, fault_reply, held_by, asked_by, request_for, EndsSo, CanEnd, IsDone, IsReady, IsDueBy}
use Rattle.server_conn.specs.Inside.{held_in, conn_in, due_of, IsTxn, IsStage, IsConn}
use Rattle.server_conn.specs.Serving.{step_to, serve, began, ended}

abbrev pub seen : Stage → Bool → Seen
seen s spent = record { conn = conn_in s; spent = spent }

-- ---- whether it is spent

pub not-both : (s : Stage) (b : Bool) (old : Seen) → seen s b ≡ old → b ≡ true → old.spent ≡ false → ⊥
not-both s b old view is fresh = let e : true ≡ false = sym is ∙ ap (λ (k : Seen). k.spent) view ∙ fresh in cc

pub nor-both : (s : Stage) (b : Bool) (old : Seen) → seen s b ≡ old → b ≡ false → old.spent ≡ true → ⊥
nor-both s b old view is spent = let e : false ≡ true = sym is ∙ ap (λ (k : Seen). k.spent) view ∙ spent in cc

pub conn-fresh : (s : Stage) (b : Bool) → IsStage s → b ≡ false → IsConn s b
conn-fresh s b good fresh = record { stage_is = good; gone = λ e. absurd (let f : true ≡ false = sym e ∙ fresh in cc) }

-- the stage that was taken out
pub taken-view : (s n : Stage) (b : Bool) (old : Seen) → n ≡ s → seen s b ≡ old → seen n b ≡ old
taken-view s n b old is view = ap (λ (u : Stage). seen u b) is ∙ view

-- and the one that is left
pub conn-idle : (s : Stage) (b : Bool) → s ≡ stage.Idle → b ≡ false → IsConn s b
unfolding IsStage
conn-idle s b is fresh = conn-fresh s b (subst IsStage (sym is) tt) fresh

pub conn-lost : IsConn stage.Idle true
unfolding IsStage
conn-lost = record { stage_is = tt; gone = λ _. refl }

-- ---- a request

pub serve-served : (s : Stage) (b : Bool) (old : Seen) (r : Request) (a : Answered) → seen s b ≡ old → a ≡ handed r (serve r (conn_in s)).served → a ≡ handed r (serve r old.conn).served
serve-served s b old r a view is = is ∙ ap (λ (k : Seen). handed r (serve r k.conn).served) view

pub serve-conn : (s n : Stage) (b : Bool) (old : Seen) (r : Request) → seen s b ≡ old → b ≡ false → conn_in n ≡ (serve r (conn_in s)).conn → seen n b ≡ running (serve r old.conn).conn
unfolding running
serve-conn s n b old r view fresh is =
    ap (λ (k : Conn). let u : Seen = record { conn = k; spent = b } in u) is
    ∙ ap (λ (k : Bool). let u : Seen = record { conn = (serve r (conn_in s)).conn; spent = k } in u) fresh
    ∙ ap (λ (k : Seen). let u : Seen = record { conn = (serve r k.conn).conn; spent = false } in u) view

pub lost-is : seen stage.Idle true ≡ spent_conn
unfolding spent_conn conn_in
lost-is = refl

pub spent-is : (s : Stage) (b : Bool) (old : Seen) → seen s b ≡ old → IsConn s b → b ≡ true → old ≡ spent_conn
spent-is s b old view good is =
    sym view
    ∙ ap (λ (k : Bool). seen s k) is
    ∙ ap (λ (k : Stage). seen k true) (good.gone is)
    ∙ lost-is

pub no-err : {A E P : Type 0} (r : Result A E) (e : E) → (P → IsOk r) → r ≡ Err e → P → ⊥
no-err {A = A} {E = E} r e walks is step = let f : false ≡ true = subst (λ (k : Result A E). IsOk k) is (walks step) in cc

-- ---- bytes

pub read-is : (r q : Request) (res : Result Request WireStop) → res ≡ Ok q → IsReadAs r res → q ≡ r
read-is r q res is read = subst (IsReadAs r) is read

pub read-not : (r : Request) (stop : WireStop) (res : Result Request WireStop) → res ≡ Err stop → IsReadAs r res → stop ≡ OutOfMemory
read-not r stop res is read = subst (IsReadAs r) is read

pub served-as : {E : Type 0} (r q : Request) (k : Conn) (a : Result Answered E) → q ≡ r → IfOk a (λ (answer : Answered). answer ≡ handed q (serve q k).served) → IfOk a (λ (answer : Answered). answer ≡ handed r (serve r k).served)
served-as r q k a same is = subst (λ (p : Request). IfOk a (λ (answer : Answered). answer ≡ handed p (serve p k).served)) same is

pub conn-as : {E : Type 0} (r q : Request) (k : Conn) (n : Seen) (a : Result Answered E) → q ≡ r → OnOk a (n ≡ running (serve q k).conn) → OnOk a (n ≡ running (serve r k).conn)
conn-as r q k n a same is = subst (λ (p : Request). OnOk a (n ≡ running (serve p k).conn)) same is

pub no-fault : (fault : Option WireStop) (stop : WireStop) → fault ≡ None → fault ≡ Some stop → ⊥
no-fault fault stop none some = let e : None ≡ Some stop = sym none ∙ some in cc

-- ---- bytes that spell no request

-- for want of memory nothing is handed out
no-handed : (stop : WireStop) (o : Option Answered) → o ≡ handed_fault (fault_reply stop) → stop ≡ OutOfMemory → o ≡ None
unfolding handed_fault fault_reply
no-handed stop o is none = is ∙ ap (λ (s : WireStop). handed_fault (fault_reply s)) none

pub some-handed : (stop : WireStop) (o : Option Answered) (a : Answered) → o ≡ Some a → o ≡ handed_fault (fault_reply stop) → stop ≡ OutOfMemory → ⊥
some-handed stop o a some is none = let e : None ≡ Some a = sym (no-handed stop o is none) ∙ some in cc

-- a fault that bytes have is handed out
fault-same : (stop told : WireStop) → fault_in stop ≡ Some told → stop ≡ told
fault-same (Short offset) told is = cc
fault-same (Kind offset) told is = cc
fault-same (Length offset) told is = cc
fault-same (Value offset) told is = cc
fault-same OutOfMemory told is = cc

pub fault-handed : (stop told : WireStop) (o : Option Answered) → o ≡ None → o ≡ handed_fault (fault_reply stop) → fault_in stop ≡ Some told → ⊥
unfolding handed_fault fault_reply
fault-handed (Short offset) told o none is fault = let e : None ≡ Some _ = sym none ∙ is in cc
fault-handed (Kind offset) told o none is fault = let e : None ≡ Some _ = sym none ∙ is in cc
fault-handed (Length offset) told o none is fault = let e : None ≡ Some _ = sym none ∙ is in cc
fault-handed (Value offset) told o none is fault = let e : None ≡ Some _ = sym none ∙ is in cc
fault-handed OutOfMemory told o none is fault = cc

pub fault-told : (stop told : WireStop) (said : Reply) (o : Option Answered) (a : Answered) → o ≡ Some a → o ≡ handed_fault (fault_reply stop) → fault_in stop ≡ Some told → fault_reply told ≡ Some said → a ≡ answered.Reply (receipt_for None said)
unfolding handed_fault
fault-told stop told said o a some is fault says =
    let e : Some a ≡ Some (answered.Reply (receipt_for None said)) = sym some ∙ is ∙ ap (λ (s : WireStop). handed_fault (fault_reply s)) (fault-same stop told fault) ∙ ap handed_fault says in cc

-- ---- the begin turn

idle-no-begins : (s : Stage) → conn_in s ≡ begins → s ≡ stage.Idle → ⊥
unfolding conn_in
idle-no-begins s is idle_is = let e : idle ≡ begins = sym (ap conn_in idle_is) ∙ is in cc

bool-by : (b : Bool) → (b ≡ true → ⊥) → b ≡ false
bool-by true never = absurd (never refl)
bool-by false never = refl

pub begins-fresh : (s : Stage) (b : Bool) (old : Seen) → seen s b ≡ old → IsConn s b → old.conn ≡ begins → b ≡ false
begins-fresh s b old view good is = bool-by b (λ e. idle-no-begins s (ap (λ (k : Seen). k.conn) view ∙ is) (good.gone e))

pub began-step : (t : Txn) (d : Database) (number : ℕ) → number ≡ d.number → held_in t ≡ held_on d → began d ≡ step_to (reply.Ended how.Began 0 number) (conn_in (stage.Holds t))
unfolding began step_to conn_in
began-step t d number is held =
    ap (λ (n : ℕ). step_to (reply.Ended how.Began 0 n) (holds (held_on d))) (sym is)
    ∙ ap (λ (h : Held). step_to (reply.Ended how.Began 0 number) (holds h)) (sym held)

pub asked-begins : (k : Conn) → k ≡ begins → Some request.Begin ≡ asked_by k
unfolding asked_by
asked-begins k is = sym (ap asked_by is)

-- ---- the last turn

pub can-end : (s : Stage) (k : Conn) (h : How) (table : ℕ) → conn_in s ≡ k → CanEnd k h table → CanEnd (conn_in s) h table
can-end s k h table view can = subst (λ (u : Conn). CanEnd u h table) (sym view) can

pub ends-awaits : (s : Stage) (h : How) (table : ℕ) → CanEnd (conn_in s) h table → (t : Txn) × (due : Turn) × (s ≡ stage.Awaits t due)
unfolding conn_in CanEnd
ends-awaits stage.Idle h table can = absurd can
ends-awaits stage.Begins h table can = absurd can
ends-awaits (stage.Holds t) h table can = absurd can
ends-awaits (stage.Awaits t due) h table can = (t, due, refl)

pub ended-asked : (s : Stage) (t : Txn) (due : Turn) (k : Conn) (r : Request) → s ≡ stage.Awaits t due → conn_in s ≡ k → r ≡ request_for (due_of due) → Some r ≡ asked_by k
unfolding asked_by conn_in
ended-asked s t due k r is view gives = ap Some gives ∙ sym (ap (λ (u : Stage). asked_by (conn_in u)) is) ∙ ap asked_by view

pub ended-step : (s : Stage) (h : How) (table number : ℕ) → s ≡ stage.Idle → ended h table number ≡ step_to (reply.Ended h table number) (conn_in s)
unfolding ended conn_in
ended-step s h table number is = sym (ap (λ (u : Stage). step_to (reply.Ended h table number) (conn_in u)) is)

idle-no-end : (s : Stage) (h : How) (table : ℕ) → CanEnd (conn_in s) h table → s ≡ stage.Idle → ⊥
unfolding conn_in CanEnd
idle-no-end s h table can is = subst (λ (u : Stage). CanEnd (conn_in u) h table) is can

pub ends-fresh : (s : Stage) (b : Bool) (old : Seen) (h : How) (table : ℕ) → seen s b ≡ old → IsConn s b → CanEnd old.conn h table → b ≡ false
ends-fresh s b old h table view good can = bool-by b (λ e. idle-no-end s h table (subst (λ (k : Seen). CanEnd k.conn h table) (sym view) can) (good.gone e))

-- ---- what is handed over at the end

pub idle-none : (s : Stage) (b : Bool) (k : Seen) → seen s b ≡ k → s ≡ stage.Idle → held_by k.conn ≡ None
unfolding held_by conn_in
idle-none s b k view is = sym (ap (λ (u : Seen). held_by u.conn) view) ∙ ap (λ (u : Stage). held_by (conn_in u)) is

pub begins-none : (s : Stage) (b : Bool) (k : Seen) → seen s b ≡ k → s ≡ stage.Begins → held_by k.conn ≡ None
unfolding held_by conn_in
begins-none s b k view is = sym (ap (λ (u : Seen). held_by u.conn) view) ∙ ap (λ (u : Stage). held_by (conn_in u)) is

pub holds-some : (s : Stage) (b : Bool) (k : Seen) (t : Txn) → seen s b ≡ k → s ≡ stage.Holds t → held_by k.conn ≡ Some (held_in t)
unfolding held_by conn_in
holds-some s b k t view is = sym (ap (λ (u : Seen). held_by u.conn) view) ∙ ap (λ (u : Stage). held_by (conn_in u)) is

pub awaits-some : (s : Stage) (b : Bool) (k : Seen) (t : Txn) (due : Turn) → seen s b ≡ k → s ≡ stage.Awaits t due → held_by k.conn ≡ Some (held_in t)
unfolding held_by conn_in
awaits-some s b k t due view is = sym (ap (λ (u : Seen). held_by u.conn) view) ∙ ap (λ (u : Stage). held_by (conn_in u)) is

pub none-iff : {B : Type 0} (o : Option B) → o ≡ None → (false ≡ true) ↔ IsSome o
none-iff {B = B} o is = (λ some. absurd (let f : false ≡ true = some in cc), λ some. absurd (let f : false ≡ true = subst (λ (q : Option B). IsSome q) is some in cc))

pub some-iff : {A B : Type 0} (x : A) (y : B) (o : Option B) → o ≡ Some y → IsSome (Some x) ↔ IsSome o
some-iff {B = B} x y o is = (λ _. subst (λ (p : Option B). IsSome p) (sym is) refl, λ _. refl)

pub none-held : (o : Option Held) (h : Held) → o ≡ None → o ≡ Some h → ⊥
none-held o h none some = let e : None ≡ Some h = sym none ∙ some in cc

pub one-held : (o : Option Held) (t : Txn) (h : Held) → o ≡ Some (held_in t) → o ≡ Some h → held_in t ≡ h
one-held o t h is some = let e : Some (held_in t) ≡ Some h = sym is ∙ some in cc

pub held-base : (t : Txn) (h : Held) → held_in t ≡ h → t.base ≡ h.base
unfolding held_in
held-base t h is = ap (λ (k : Held). k.base) is

pub held-touched : (t : Txn) (h : Held) → held_in t ≡ h → t.touched.items ≡ h.touched
unfolding held_in
held-touched t h is = ap (λ (k : Held). k.touched) is

pub held-ops : (t : Txn) (h : Held) → held_in t ≡ h → t.ops.items ≡ h.ops
unfolding held_in
held-ops t h is = ap (λ (k : Held). k.ops) is

pub held-done : (t : Txn) (h : Held) → IsTxn t → held_in t ≡ h → IsDone h.base h.touched h.ops
unfolding held_in
held-done t h good is = subst (λ (k : Held). IsDone k.base k.touched k.ops) is good.done

pub holds-good : (s : Stage) (b : Bool) (t : Txn) → IsConn s b → s ≡ stage.Holds t → IsTxn t
unfolding IsStage
holds-good s b t good is = subst IsStage is good.stage_is

pub awaits-good : (s : Stage) (b : Bool) (t : Txn) (due : Turn) → IsConn s b → s ≡ stage.Awaits t due → IsTxn t
unfolding IsStage
awaits-good s b t due good is = (subst IsStage is good.stage_is).0

stage-due : (s : Stage) → IsStage s → IsDueBy (conn_in s)
unfolding IsStage IsDueBy conn_in
stage-due stage.Idle good = tt
stage-due stage.Begins good = tt
stage-due (stage.Holds t) good = tt
stage-due (stage.Awaits t due) good = good.1

pub due-by : (s : Stage) (b : Bool) (k : Seen) → seen s b ≡ k → IsConn s b → IsDueBy k.conn
due-by s b k view good = subst (λ (u : Seen). IsDueBy u.conn) view (stage-due s good.stage_is)
