-- A session whose transaction begins: how the exchanges that remain after its begin lead it to where it rests.
use Rattle.std.proofs.Common.{◌≡◌, refl, sym, subst, ℕ, suc, Bool, false, List, [], ◌∷◌, ◌++◌, append-nil}
use Rattle.table_model.specs.Stores.{Store}
use Rattle.table_model.specs.Operations.{ValueOp}
use Rattle.value_cipher.specs.Cipher.{Cell}
use Rattle.versions.specs.Databases.{Database}
use Rattle.walk_proto.specs.declared.messages.Exchange.{Exchange}
use Rattle.workload.specs.declared.script.Act.{Act}
use Rattle.workload.specs.declared.script.End.{End}
use Rattle.workload.specs.declared.script.End.TheVariants as end
use Rattle.workload.specs.Transaction.{Work, Trial, going, stopped, work_of, Wish, ends, commits, wish_of, wish_after}
use Rattle.proxy.specs.Client.{Setting, Client, ending}
use Rattle.proxy.specs.Tasks.{closes}
use Rattle.server_conn.specs.Connections.{Conn, idle, holds}
use Rattle.server_conn.specs.Logs.{conn_after}
use Rattle.transaction_laws.specs.Meetings.{Meets, doing}
use Rattle.transaction_laws.specs.Transactions.{Tried, client_in, held_in, client_by, conn_by, CommitTurns, EndsAs, EndsBy}
use Rattle.transaction_laws.proofs.Meeting.{meets_then}
use Rattle.run_laws.specs.WorldRuns.{closing, closing_by}
use Rattle.run_laws.specs.Seats.{Seat, seat_of, IsSeated, client_ready}

-- a log over which client and connection meet leads them to where they rest
pub meets-seated : (s : Setting) (log : List Exchange) (Rests : Seat → Type 0) (c client : Client) (k conn : Conn) → Meets s c k log client conn → Rests (seat_of client conn) → IsSeated s log Rests (seat_of c k)
unfolding seat_of
meets-seated s log Rests c client k conn meets rests = record {
  talk = meets.talk;
  allows = meets.allows;
  answers = meets.answers;
  rests = subst (λ (x : Client). Rests (seat_of x (conn_after k log))) (sym meets.client_is) (subst (λ (x : Conn). Rests (seat_of client x)) (sym meets.conn_is) rests);
}

-- ---- a transaction

unfoldable pub tried_of : Trial → List (Store Cell) → List (ValueOp Cell) → ℕ → Tried
tried_of trial stores ops seals = record { plain = trial; stores = stores; ops = ops; seals = seals }

-- the client after its end is ready for the next one
ending-ready : (s : Setting) (e : End) (c : Client) (w : Tried) → ending s e (client_in [] c w) ≡ client_ready (suc c.place) c.rest w.seals (c.done ++ record { session = s.session; place = c.place; base = c.base; end = e; answers = (work_of w.plain).answers } ∷ [])
unfolding ending client_in client_ready
ending-ready s e c w = refl

-- it waits for its commit's turn
pub record Waits (s : Setting) (acts : List Act) (rollback : Bool) (c : Client) (d : Database) (base : List (Store Cell)) (work : Work) (stores : List (Store Cell)) (ops : List (ValueOp Cell)) (seals : ℕ) : Type 0 where
  pub wish : wish_after rollback work.ops ≡ commits
  pub keeps : rollback ≡ false
  pub turns : CommitTurns s acts work.touched (client_in [] c (tried_of (going work) stores ops seals)) (held_in s.key d base (tried_of (going work) stores ops seals))

-- where a transaction rests after its statements, by its trial: it has ended at once, or it waits
pub record LeadsTo (s : Setting) (acts : List Act) (rollback : Bool) (c : Client) (d : Database) (base : List (Store Cell)) (trial : Trial) (stores : List (Store Cell)) (ops : List (ValueOp Cell)) (seals : ℕ) (Rests : Seat → Type 0) : Type 0 where
  pub ended : (e : End) → wish_of rollback trial ≡ ends e
      → Rests (seat_of (client_ready (suc c.place) c.rest seals (c.done ++ record { session = s.session; place = c.place; base = c.base; end = e; answers = (work_of trial).answers } ∷ [])) idle)
  pub waits : (work : Work) → trial ≡ going work → Waits s acts rollback c d base work stores ops seals → Rests (seat_of (client_in (closes rollback acts ∷ []) c (tried_of (going work) stores ops seals)) (holds (held_in s.key d base (tried_of (going work) stores ops seals))))

going-seated : (s : Setting) (acts : List Act) (rollback : Bool) (c : Client) (d : Database) (base : List (Store Cell)) (work : Work) (stores : List (Store Cell)) (ops : List (ValueOp Cell)) (seals : ℕ) (c1 : Client) (k1 : Conn) (log : List Exchange) (Rests : Seat → Type 0) (x : Wish)
    → Meets s c1 k1 log (client_in (closes rollback acts ∷ []) c (tried_of (going work) stores ops seals)) (holds (held_in s.key d base (tried_of (going work) stores ops seals)))
    → EndsAs s rollback acts work.touched (client_in [] c (tried_of (going work) stores ops seals)) (held_in s.key d base (tried_of (going work) stores ops seals)) x
    → wish_after rollback work.ops ≡ x → LeadsTo s acts rollback c d base (going work) stores ops seals Rests
    → IsSeated s (log ++ closing rollback d.number x) Rests (seat_of c1 k1)
unfolding EndsAs closing wish_of tried_of work_of client_in doing held_in
going-seated s acts rollback c d base work stores ops seals c1 k1 log Rests (ends e) meets last wish leads =
    let t : Tried = tried_of (going work) stores ops seals in
    let closed : Client = ending s e (client_in [] c t) in
    meets-seated s (log ++ closing rollback d.number (ends e)) Rests c1 closed k1 idle
    (meets_then s c1 (client_in (closes rollback acts ∷ []) c t) closed k1 (holds (held_in s.key d base t)) idle log (closing rollback d.number (ends e)) meets last)
    (subst (λ (y : Client). Rests (seat_of y idle)) (sym (ending-ready s e c t)) (leads.ended e wish))
going-seated s acts rollback c d base work stores ops seals c1 k1 log Rests commits meets last wish leads =
    let t : Tried = tried_of (going work) stores ops seals in
    subst (λ (l : List Exchange). IsSeated s l Rests (seat_of c1 k1)) (sym (append-nil log))
    (meets-seated s log Rests c1 (client_in (closes rollback acts ∷ []) c t) k1 (holds (held_in s.key d base t)) meets (leads.waits work refl (record { wish = wish; keeps = last.0; turns = last.1 })))

pub begun-seated : (s : Setting) (acts : List Act) (rollback : Bool) (c : Client) (d : Database) (base : List (Store Cell)) (trial : Trial) (stores : List (Store Cell)) (ops : List (ValueOp Cell)) (seals : ℕ) (c1 : Client) (k1 : Conn) (log : List Exchange) (Rests : Seat → Type 0)
    → Meets s c1 k1 log (client_by s (closes rollback acts ∷ []) c trial (tried_of trial stores ops seals)) (conn_by s.key d base trial (tried_of trial stores ops seals))
    → EndsBy s rollback acts c d base trial (tried_of trial stores ops seals)
    → LeadsTo s acts rollback c d base trial stores ops seals Rests
    → IsSeated s (log ++ closing_by rollback d.number trial) Rests (seat_of c1 k1)
unfolding client_by conn_by EndsBy closing_by wish_of tried_of work_of
begun-seated s acts rollback c d base (stopped table work) stores ops seals c1 k1 log Rests meets last leads =
    let t : Tried = tried_of (stopped table work) stores ops seals in
    let e : End = end.Full table in
    subst (λ (l : List Exchange). IsSeated s l Rests (seat_of c1 k1)) (sym (append-nil log))
    (meets-seated s log Rests c1 (ending s e (client_in [] c t)) k1 idle meets (subst (λ (y : Client). Rests (seat_of y idle)) (sym (ending-ready s e c t)) (leads.ended e refl)))
begun-seated s acts rollback c d base (going work) stores ops seals c1 k1 log Rests meets last leads =
    going-seated s acts rollback c d base work stores ops seals c1 k1 log Rests (wish_after rollback work.ops) meets last refl leads
