-- What comes of a request that is served, and of what a proxy said: over plain values.
use Rattle.std.proofs.Common.{◌≡◌, ◌∙◌, ◌++◌, ℕ, zero, suc, ◌+◌, Bool, true, false, List, [], ◌∷◌, Option, Some, None, refl, sym, ap, subst}
use Rattle.std.specs.Prelude.{option_map}
use Rattle.std.proofs.lemmas.List.{append-nil}
use Rattle.mope_base.specs.declared.body.Body.{Body}
use Rattle.mope_base.specs.declared.numbers.SessionNo.{SessionNo}
use Rattle.tree_model.specs.declared.Side.{Side}
use Rattle.tree_model.specs.declared.Side.TheVariants.{Left, Right}
use Rattle.tree_model.specs.Trees.{Tree, leaf, node, size}
use Rattle.tree_model.specs.Items.{Item}
use Rattle.versions.specs.declared.op.Op.{Op}
use Rattle.versions.specs.declared.turn.TurnKind.{TurnKind}
use Rattle.versions.specs.Turns.{replay}
use Rattle.walk_proto.specs.declared.messages.Reply.{Reply}
use Rattle.walk_proto.specs.declared.messages.Request.{Request}
use Rattle.walk_proto.specs.declared.messages.Request.TheVariants as request
use Rattle.proxy.specs.declared.outcomes.Step.{Step as Says}
use Rattle.proxy.specs.declared.outcomes.Step.TheVariants as says
use Rattle.proxy.specs.declared.outcomes.Want.{Want}
use Rattle.proxy.specs.Party.{Phase, fresh, waits, finished, stuck, spent, said}
use Rattle.server_conn.specs.declared.receipt.Receipt.{Receipt as Exchanged}
use Rattle.server_conn.specs.declared.receipt.Served.{Served as Answered}
use Rattle.server_conn.specs.Connections.{Walk, Held, Conn, idle, begins, holds, awaits, Served, replies, wants_begin, wants_commit, wants_install, Step}
use Rattle.server_conn.specs.Checks.{refusal}
use Rattle.server_conn.specs.Handling.{Seen, running, asked_by, request_for, handed, receipt_for}
use Rattle.server_conn.specs.Serving.{serve, served_idle, served_unless, refused, effect, step_to, placed_at, come_to, walk_started, stepped_from, stepped, found, inserted, queried, closed, committed, ended_by}
use Rattle.txn_core.specs.Courses.{Course}
use Rattle.txn_core.specs.Outcomes.{turn_on}
use Rattle.proxy.specs.declared.outcomes.Finished.{Finished}
use Rattle.workload.specs.declared.script.DoneTxn.{DoneTxn}
use Rattle.walk_proto.specs.declared.messages.Exchange.{Exchange}
use Rattle.step_core.specs.Cores.{Sitting}
use Rattle.step_core.specs.Inside.{IsSaid, sitting_of}
use Rattle.step_core.specs.declared.seat.Seat.{Seat}
use Rattle.step_core.specs.Outcomes.{Outcome, outcome, outcome_by, turn_asked, turn_outcome, reply_for, Settles, TakesTurn}
use Rattle.step_core.specs.Sittings.{CanGo, IsOpen, IsOpenBy}

-- ---- a turn that is asked for is asked for by the request that was served

abbrev IsAskedBy : Request → Served → Conn → Type 0
IsAskedBy r (replies answer) k = Unit {0}
IsAskedBy r wants_begin k = asked_by k ≡ Some r
IsAskedBy r wants_commit k = asked_by k ≡ Some r
IsAskedBy r (wants_install t column) k = asked_by k ≡ Some r

abbrev Asks : Request → Step → Type 0
Asks r s = IsAskedBy r s.served s.conn

come-asks : (r : Request) (table column before : ℕ) (t : Tree (Item Body)) (h : Held) → Asks r (come_to table column before t h)
unfolding come_to placed_at step_to
come-asks r table column before leaf h = tt
come-asks r table column before (node l x more) h = tt

from-asks : (r : Request) (side : Side) (table column before : ℕ) (t : Tree (Item Body)) (h : Held) → Asks r (stepped_from side table column before t h)
unfolding stepped_from placed_at step_to
from-asks r side table column before leaf h = tt
from-asks r Left table column before (node l x more) h = come-asks r table column before l h
from-asks r Right table column before (node l x more) h = come-asks r table column (before + suc (size l)) more h

stepped-asks : (r : Request) (side : Side) (w : Option Walk) (h : Held) → Asks r (stepped side w h)
unfolding stepped step_to
stepped-asks r side None h = tt
stepped-asks r side (Some w) h = from-asks r side w.table w.column w.before w.part h

found-asks : (r : Request) (w : Option Walk) (h : Held) → Asks r (found w h)
unfolding found placed_at step_to
found-asks r None h = tt
found-asks r (Some w) h = tt

committed-asks : (ops : List Op) (h : Held) → Asks (request.End true) (committed ops h)
unfolding committed closed step_to asked_by request_for
committed-asks [] h = tt
committed-asks (o ∷ ops) h = refl

ended-asks : (keeps : Bool) (h : Held) → Asks (request.End keeps) (ended_by keeps h)
unfolding ended_by closed step_to
ended-asks true h = committed-asks h.ops h
ended-asks false h = tt

effect-asks : (r : Request) (h : Held) → Asks r (effect r h)
unfolding effect walk_started inserted queried step_to asked_by request_for
effect-asks request.Begin h = tt
effect-asks (request.WalkStart t column) h = come-asks (request.WalkStart t column) t.0 column.0 0 _ h
effect-asks (request.Go side) h = stepped-asks (request.Go side) side h.walk h
effect-asks request.Found h = found-asks request.Found h.walk h
effect-asks (request.Insert t bodies) h = tt
effect-asks (request.Query a) h = tt
effect-asks (request.End keeps) h = ended-asks keeps h
effect-asks (request.Rebuild t column) h = refl

unless-asks : (reason : Option ℕ) (r : Request) (h : Held) → Asks r (served_unless reason r h)
unfolding served_unless refused step_to
unless-asks None r h = effect-asks r h
unless-asks (Some zero) r h = tt
unless-asks (Some (suc reason)) r h = tt

idle-asks : (r : Request) → Asks r (served_idle r)
unfolding served_idle step_to asked_by
idle-asks request.Begin = refl
idle-asks (request.WalkStart t column) = tt
idle-asks (request.Go side) = tt
idle-asks request.Found = tt
idle-asks (request.Insert t bodies) = tt
idle-asks (request.Query a) = tt
idle-asks (request.End keeps) = tt
idle-asks (request.Rebuild t column) = tt

serve-asks : (r : Request) (k : Conn) → Asks r (serve r k)
unfolding serve step_to
serve-asks r idle = idle-asks r
serve-asks r begins = tt
serve-asks r (holds h) = unless-asks (refusal r h) r h
serve-asks r (awaits h due) = tt

-- ---- what has come of it

-- a request came to an outcome: its receipt, the connection that is left, and the turns
pub record HasCome (r : Request) (came : Outcome) (old new : Course) (left : Seen) (given : Exchanged) : Type 0 where
  pub receipt : given ≡ receipt_for (Some r) came.reply
  pub conn : left ≡ running came.conn
  pub turns : new.turns ≡ old.turns ++ came.turns
  pub current : new.current ≡ replay came.turns old.current
  pub first : new.first ≡ old.first

as-receipt : (x : Exchanged) (o : Option Request) (answer : Reply) → x.request ≡ o → x.reply ≡ answer → x ≡ receipt_for o answer
unfolding receipt_for
as-receipt x o answer asked told =
    ap (λ (q : Option Request). let y : Exchanged = record { request = q; reply = x.reply } in y) asked
    ∙ ap (λ (a : Reply). let y : Exchanged = record { request = o; reply = a } in y) told

outcome_or : Outcome → Option Outcome → Outcome
outcome_or other None = other
outcome_or other (Some came) = came

same-outcome : (one other : Outcome) → Some one ≡ Some other → one ≡ other
unfolding outcome_or
same-outcome one other same = ap (λ (o : Option Outcome). outcome_or one o) same

turn-comes : (n : SessionNo) (old new : Course) (r : Request) (k : Conn) (left : Seen) (given : Exchanged) (came : Outcome) (what : TurnKind) → asked_by k ≡ Some r → turn_asked k old.current ≡ Some what
    → TakesTurn n what k old new left given → option_map (turn_outcome n old.current) (turn_asked k old.current) ≡ Some came → HasCome r came old new left given
unfolding turn_outcome replay turn_on
turn-comes n old new r k left given came what asked is takes comes =
    subst (λ (o : Outcome). HasCome r o old new left given)
    (same-outcome (turn_outcome n old.current what) came (sym (ap (λ (o : Option TurnKind). option_map (turn_outcome n old.current) o) is) ∙ comes))
    (record {
      receipt = as-receipt given (Some r) (reply_for what) (takes.request ∙ asked) takes.reply;
      conn = takes.conn;
      turns = takes.turns;
      current = takes.current;
      first = takes.first;
    })

comes-by : (n : SessionNo) (old new : Course) (r : Request) (what : Served) (k : Conn) (left : Seen) (given : Exchanged) (came : Outcome) → IsAskedBy r what k → Settles n (handed r what) (running k) left old new given
    → outcome_by n old.current what k ≡ Some came → HasCome r came old new left given
unfolding Settles handed running outcome_by replay
comes-by n old new r (replies answer) k left given came asked settles comes =
    subst (λ (o : Outcome). HasCome r o old new left given) (same-outcome (record { reply = answer; conn = k; turns = [] }) came comes)
    (record {
      receipt = settles.0;
      conn = settles.1;
      turns = ap (λ (c : Course). c.turns) settles.2 ∙ sym (append-nil old.turns);
      current = ap (λ (c : Course). c.current) settles.2;
      first = ap (λ (c : Course). c.first) settles.2;
    })
comes-by n old new r wants_begin k left given came asked settles comes = turn-comes n old new r k left given came settles.0 asked settles.1 settles.2 comes
comes-by n old new r wants_commit k left given came asked settles comes = turn-comes n old new r k left given came settles.0 asked settles.1 settles.2 comes
comes-by n old new r (wants_install t column) k left given came asked settles comes = turn-comes n old new r k left given came settles.0 asked settles.1 settles.2 comes

-- what is settled of a request that was served is what it comes to
pub comes : (n : SessionNo) (old new : Course) (r : Request) (k : Conn) (served : Answered) (before left : Seen) (given : Exchanged) → served ≡ handed r (serve r k).served → before ≡ running (serve r k).conn
    → Settles n served before left old new given → (came : Outcome) → outcome n old.current r k ≡ Some came → HasCome r came old new left given
unfolding outcome
comes n old new r k served before left given out is settles came to =
    comes-by n old new r (serve r k).served (serve r k).conn left given came (serve-asks r k)
    (subst (λ (v : Answered). Settles n v (running (serve r k).conn) left old new given) out (subst (λ (s : Seen). Settles n served s left old new given) is settles)) to

-- ---- what a proxy said

step_or : Says → Option Says → Says
step_or other None = other
step_or other (Some s) = s

same-step : (one other : Says) → Some one ≡ Some other → one ≡ other
unfolding step_or
same-step one other same = ap (λ (o : Option Says). step_or one o) same

IsThere : Option Request → Type 0
IsThere None = ⊥
IsThere (Some r) = Unit {0}

none-or-some : (o : Option Request) (r : Request) → o ≡ None → o ≡ Some r → ⊥
unfolding IsThere
none-or-some o r none some = subst IsThere (sym (sym none ∙ some)) tt

request_or : Request → Option Request → Request
request_or other None = other
request_or other (Some r) = r

same-request : (one other : Request) → Some one ≡ Some other → one ≡ other
unfolding request_or
same-request one other same = ap (λ (o : Option Request). request_or one o) same

IsStrange : Says → Type 0
IsStrange (says.Send r) = ⊥
IsStrange says.Done = ⊥
IsStrange (says.Strange want got) = Unit {0}

IsDone : Says → Type 0
IsDone (says.Send r) = ⊥
IsDone says.Done = Unit {0}
IsDone (says.Strange want got) = ⊥

-- one that can go on said nothing strange
strange-by : (p : Phase) (n : SessionNo) (c : Course) (x : Sitting) (s : Says) (want : Want) (got : Reply) → IsOpenBy p n c x → said p ≡ Some s → s ≡ says.Strange want got → ⊥
unfolding IsOpenBy said IsStrange
strange-by fresh n c x s want got can last is = can
strange-by (waits r) n c x s want got can last is = subst IsStrange (sym (same-step (says.Send r) s last ∙ is)) tt
strange-by finished n c x s want got can last is = subst IsStrange (sym (same-step says.Done s last ∙ is)) tt
strange-by (stuck other bad) n c x s want got can last is = can
strange-by spent n c x s want got can last is = can

-- where a request was taken, one is waited for
waits-by : (p : Phase) (n : SessionNo) (c : Course) (x : Sitting) (s : Says) (o : Option Request) (r : Request) → IsOpenBy p n c x → said p ≡ Some s → ((q : Request) → s ≡ says.Send q → o ≡ Some q) → (s ≡ says.Done → o ≡ None) → o ≡ Some r
    → p ≡ waits r
unfolding IsOpenBy said
waits-by fresh n c x s o r can last sends done took = absurd can
waits-by (waits q) n c x s o r can last sends done took = ap (λ (t : Request). waits t) (same-request q r (sym (sends q (sym (same-step (says.Send q) s last))) ∙ took))
waits-by finished n c x s o r can last sends done took = absurd (none-or-some o r (done (sym (same-step says.Done s last))) took)
waits-by (stuck other bad) n c x s o r can last sends done took = absurd can
waits-by spent n c x s o r can last sends done took = absurd can

-- and where none was, the script has ended
finished-by : (p : Phase) (n : SessionNo) (c : Course) (x : Sitting) (s : Says) (o : Option Request) → IsOpenBy p n c x → said p ≡ Some s → ((q : Request) → s ≡ says.Send q → o ≡ Some q) → o ≡ None → p ≡ finished
unfolding IsOpenBy said
finished-by fresh n c x s o can last sends took = absurd can
finished-by (waits q) n c x s o can last sends took = absurd (none-or-some o q took (sends q (sym (same-step (says.Send q) s last))))
finished-by finished n c x s o can last sends took = refl
finished-by (stuck other bad) n c x s o can last sends took = absurd can
finished-by spent n c x s o can last sends took = absurd can

pub never-strange : (seat : Seat) (c : Course) (want : Want) (got : Reply) → IsOpen seat.session c (sitting_of seat) → IsSaid seat → seat.said ≡ says.Strange want got → ⊥
unfolding sitting_of
never-strange seat c want got can last is = strange-by seat.proxy.phase seat.session c (sitting_of seat) seat.said want got can.0 last is

pub seat-waits : (seat : Seat) (c : Course) (o : Option Request) (r : Request) → IsOpen seat.session c (sitting_of seat) → IsSaid seat → ((q : Request) → seat.said ≡ says.Send q → o ≡ Some q) → (seat.said ≡ says.Done → o ≡ None) → o ≡ Some r
    → seat.proxy.phase ≡ waits r
unfolding sitting_of
seat-waits seat c o r can last sends done took = waits-by seat.proxy.phase seat.session c (sitting_of seat) seat.said o r can.0 last sends done took

pub seat-finished : (seat : Seat) (c : Course) (o : Option Request) → IsOpen seat.session c (sitting_of seat) → IsSaid seat → ((q : Request) → seat.said ≡ says.Send q → o ≡ Some q) → o ≡ None → seat.proxy.phase ≡ finished
unfolding sitting_of
seat-finished seat c o can last sends took = finished-by seat.proxy.phase seat.session c (sitting_of seat) seat.said o can.0 last sends took

pub seat-can : (seat : Seat) (c : Course) (r : Request) → IsOpen seat.session c (sitting_of seat) → seat.proxy.phase ≡ waits r → (came : Outcome) × CanGo seat.session c (sitting_of seat) r came
unfolding sitting_of IsOpenBy
seat-can seat c r can is = subst (λ (p : Phase). IsOpenBy p seat.session c (sitting_of seat)) is can.0

awaited_or : Request → Phase → Request
awaited_or other fresh = other
awaited_or other (waits r) = r
awaited_or other finished = other
awaited_or other (stuck want got) = other
awaited_or other spent = other

pub same-waits : (p : Phase) (one other : Request) → p ≡ waits one → p ≡ waits other → one ≡ other
unfolding awaited_or
same-waits p one other is was = ap (λ (q : Phase). awaited_or one q) (sym is ∙ was)

HasEnd : Phase → Type 0
HasEnd fresh = Unit {0}
HasEnd (waits r) = ⊥
HasEnd finished = Unit {0}
HasEnd (stuck want got) = Unit {0}
HasEnd spent = Unit {0}

pub not-both : {A : Type 0} (p : Phase) (r : Request) → p ≡ waits r → p ≡ finished → A
unfolding HasEnd
not-both p r is was = absurd (subst HasEnd (sym was ∙ is) tt)

pub done-said : (p : Phase) (s : Says) → p ≡ finished → s ≡ says.Done → said p ≡ Some s
unfolding said
done-said p s is done = ap said is ∙ ap (λ (t : Says). let o : Option Says = Some t in o) (sym done)

-- a seat whose proxy has finished last again that it has
pub same-seat : (seat : Seat) (s : Says) → seat.proxy.phase ≡ finished → IsSaid seat → s ≡ says.Done → record { session = seat.session; proxy = seat.proxy; conn = seat.conn; said = s } ≡ seat
unfolding said
same-seat seat s is last done =
    ap (λ (t : Says). let x : Seat = record { session = seat.session; proxy = seat.proxy; conn = seat.conn; said = t } in x)
    (done ∙ same-step says.Done seat.said (sym (ap said is) ∙ last))

pub as-finished : (f : Finished) (txns : List DoneTxn) (log : List Exchange) → f.txns ≡ txns → f.log ≡ log → f ≡ record { txns = txns; log = log }
as-finished f txns log done kept =
    ap (λ (l : List DoneTxn). let x : Finished = record { txns = l; log = f.log } in x) done
    ∙ ap (λ (l : List Exchange). let x : Finished = record { txns = txns; log = l } in x) kept
