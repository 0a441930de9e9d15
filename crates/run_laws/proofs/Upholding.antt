-- A step of one session keeps what is upheld of all.
use Rattle.std.proofs.Common.{◌≡◌, refl, sym, ◌∙◌, ap, subst, ℕ, zero, suc, ◌≤◌, List, [], ◌∷◌, ◌++◌, map, length, get_or, inl, inr, arith}
use Rattle.std.proofs.lemmas.Bool.{cases_eq}
use Rattle.std.proofs.lemmas.List.{length-set, length-map, get_or-set_same, get_or-set_other}
use Rattle.mope_base.specs.declared.numbers.SessionNo.{SessionNo}
use Rattle.versions.specs.declared.turn.Turn.{Turn}
use Rattle.versions.specs.Databases.{Database}
use Rattle.versions.specs.Turns.{after_turn, replay}
use Rattle.walk_proto.specs.declared.messages.Exchange.{Exchange}
use Rattle.workload.specs.declared.script.Piece.{Piece}
use Rattle.workload.specs.declared.script.Workload.{Workload}
use Rattle.workload.specs.Run.{Position, ready, initial, position_at}
use Rattle.plain_db.proofs.FinishLemmas.{initial_position}
use Rattle.proxy.specs.Client.{starts}
use Rattle.proxy.specs.Talk.{Talk, AllAllowed, client_after}
use Rattle.server_conn.specs.Logs.{Answers, conn_after}
use Rattle.transaction_laws.specs.Standing.{Stands}
use Rattle.transaction_laws.specs.Transactions.{tried_on}
use Rattle.run_laws.specs.Worlds.{RunSetting, session_setting, first_version}
use Rattle.run_laws.specs.WorldRuns.{WorldRun, Session, new_session, first_run, session_at, world_turn, world_turns}
use Rattle.run_laws.specs.Schedules.{Underway, due_at, with_due, first_underway, due_from, stepped_by, stepped}
use Rattle.run_laws.specs.Seats.{Seat, seat_of, first_seat, seat_at, with_seat, IsSeated, client_ready, done_by, IsReady, RestsAt, Rests}
use Rattle.run_laws.specs.TellingLaws.{IsReached, version_now}
use Rattle.run_laws.specs.SeatLaws.{IsSession, IsUpheld, StartIsUpheld}
use Rattle.run_laws.proofs.WorldTurned.{world-append}
use Rattle.run_laws.proofs.Staying.{others_stay}
use Rattle.run_laws.proofs.Paces.{KeepsPace}
use Rattle.run_laws.proofs.ToldTurns.{replay-last}
use Rattle.run_laws.proofs.TurnSteps.{first_stands}

-- ---- lists by session

pub due-own : (due : List (List Exchange)) (k : ℕ) (log : List Exchange) → 1 ≤ k → k ≤ length due → due_at (with_due due k log) k ≡ log
unfolding due_at with_due
due-own due zero log from to = absurd (omega (arith, from))
due-own due (suc i) log from to = get_or-set_same due i log [] (omega (arith, to))

pub due-other : (due : List (List Exchange)) (k m : ℕ) (log : List Exchange) → (m ≡ k → ⊥) → due_at (with_due due k log) m ≡ due_at due m
unfolding due_at with_due
due-other due zero m log other = refl
due-other due (suc i) zero log other = refl
due-other due (suc i) (suc k) log other = get_or-set_other due i k log [] (λ e. other (ap suc e))

length-due : (due : List (List Exchange)) (k : ℕ) (log : List Exchange) → length (with_due due k log) ≡ length due
unfolding with_due
length-due due zero log = refl
length-due due (suc i) log = length-set due i log

seat-own : (seats : List Seat) (k : ℕ) (seat : Seat) → 1 ≤ k → k ≤ length seats → seat_at (with_seat seats k seat) k ≡ seat
unfolding seat_at with_seat
seat-own seats zero seat from to = absurd (omega (arith, from))
seat-own seats (suc i) seat from to = get_or-set_same seats i seat (first_seat []) (omega (arith, to))

seat-other : (seats : List Seat) (k m : ℕ) (seat : Seat) → (m ≡ k → ⊥) → seat_at (with_seat seats k seat) m ≡ seat_at seats m
unfolding seat_at with_seat
seat-other seats zero m seat other = refl
seat-other seats (suc i) zero seat other = refl
seat-other seats (suc i) (suc k) seat other = get_or-set_other seats i k seat (first_seat []) (λ e. other (ap suc e))

length-seats : (seats : List Seat) (k : ℕ) (seat : Seat) → length (with_seat seats k seat) ≡ length seats
unfolding with_seat
length-seats seats zero seat = refl
length-seats seats (suc i) seat = length-set seats i seat

same_number : (n m : SessionNo) → m.0 ≡ n.0 → n ≡ m
same_number n m e = ap (λ (k : ℕ). let x : SessionNo = record { 0 = k } in x) (sym e)

-- ---- all seats

-- the sessions are seated, over these remaining exchanges
pub record AllSeated (s : RunSetting) (w : Workload) (r : WorldRun) (due : List (List Exchange)) (seats : List Seat) : Type 0 where
  pub many : length seats ≡ length w.sessions
  pub many_due : length due ≡ length w.sessions
  pub seated : (n : SessionNo) → IsSession w n → IsSeated (session_setting s n) (due_at due n.0) (Rests s w r n) (seat_at seats n.0)

-- one session is seated anew, the others stay
pub one-seated : (s : RunSetting) (w : Workload) (r next : WorldRun) (due : List (List Exchange)) (seats : List Seat) (n : SessionNo) (log : List Exchange) (seat : Seat) → AllSeated s w r due seats → IsSession w n
    → IsSeated (session_setting s n) log (Rests s w next n) seat
    → ((m : SessionNo) (at : Seat) → (m.0 ≡ n.0 → ⊥) → Rests s w r m at → Rests s w next m at)
    → AllSeated s w next (with_due due n.0 log) (with_seat seats n.0 seat)
one-seated s w r next due seats n log seat all known own others = record {
  many = length-seats seats n.0 seat ∙ all.many;
  many_due = length-due due n.0 log ∙ all.many_due;
  seated = λ m there.
      elim (cases_eq m.0 n.0) as (λ _. IsSeated (session_setting s m) (due_at (with_due due n.0 log) m.0) (Rests s w next m) (seat_at (with_seat seats n.0 seat) m.0)) [
        | inl same ↦
            subst (λ (x : SessionNo). IsSeated (session_setting s x) (due_at (with_due due n.0 log) x.0) (Rests s w next x) (seat_at (with_seat seats n.0 seat) x.0)) (same_number n m same)
            (subst (λ (l : List Exchange). IsSeated (session_setting s n) l (Rests s w next n) (seat_at (with_seat seats n.0 seat) n.0)) (sym (due-own due n.0 log known.from (omega (arith, known.to, all.many_due))))
            (subst (λ (x : Seat). IsSeated (session_setting s n) log (Rests s w next n) x) (sym (seat-own seats n.0 seat known.from (omega (arith, known.to, all.many)))) own))
        | inr other ↦
            subst (λ (l : List Exchange). IsSeated (session_setting s m) l (Rests s w next m) (seat_at (with_seat seats n.0 seat) m.0)) (sym (due-other due n.0 m.0 log other))
            (subst (λ (x : Seat). IsSeated (session_setting s m) (due_at due m.0) (Rests s w next m) x) (sym (seat-other seats n.0 m.0 seat other))
            (still s w r next m (due_at due m.0) (seat_at seats m.0) (λ (at : Seat) (rests : Rests s w r m at). others m at other rests) (all.seated m there)))
      ];
}
  where
    still : (s : RunSetting) (w : Workload) (r next : WorldRun) (m : SessionNo) (log : List Exchange) (seat : Seat) → ((at : Seat) → Rests s w r m at → Rests s w next m at) → IsSeated (session_setting s m) log (Rests s w r m) seat → IsSeated (session_setting s m) log (Rests s w next m) seat
    still s w r next m log seat go seated = record { talk = seated.talk; allows = seated.allows; answers = seated.answers; rests = go _ seated.rests }

pub all-of : (s : RunSetting) (w : Workload) (u : Underway) (d : Database) (seats : List Seat) → IsUpheld s w u d seats → AllSeated s w u.run u.due seats
all-of s w u d seats upheld = record { many = upheld.many; many_due = upheld.many_due; seated = upheld.seated }

-- ---- a step without a turn, and one with one

underway : WorldRun → List (List Exchange) → Underway
underway r due = record { run = r; due = due }

pub due-step : (s : RunSetting) (u : Underway) (n : SessionNo) (e : Exchange) (log : List Exchange) → due_at u.due n.0 ≡ e ∷ log → stepped s u n ≡ record { run = u.run; due = with_due u.due n.0 log }
unfolding stepped stepped_by
due-step s u n e log due = ap (λ (l : List Exchange). stepped_by s l u n) due

pub turn-step : (s : RunSetting) (u : Underway) (n : SessionNo) (p : Position) → due_at u.due n.0 ≡ [] → position_at u.run.plain.positions n.0 ≡ p → stepped s u n ≡ record { run = world_turn s u.run n; due = with_due u.due n.0 (due_from s u.run n p) }
unfolding stepped stepped_by underway
turn-step s u n p rests here =
    ap (λ (l : List Exchange). stepped_by s l u n) rests
    ∙ ap (λ (q : Position). underway (world_turn s u.run n) (with_due u.due n.0 (due_from s u.run n q))) here

pub turn-reached : (s : RunSetting) (w : Workload) (r : WorldRun) (n : SessionNo) → IsReached s w r → IsReached s w (world_turn s r n)
unfolding world_turns
turn-reached s w r n reached = record {
  turns = reached.turns ++ n ∷ [];
  lead = world-append s (first_run s w) reached.turns (n ∷ []) ∙ ap (λ (q : WorldRun). world_turn s q n) reached.lead;
}

pub due-upholds : (s : RunSetting) (w : Workload) (u : Underway) (d : Database) (seats : List Seat) (n : SessionNo) (e : Exchange) (log : List Exchange) (seat : Seat) → IsUpheld s w u d seats → IsSession w n → due_at u.due n.0 ≡ e ∷ log → IsSeated (session_setting s n) log (Rests s w u.run n) seat
    → IsUpheld s w (stepped s u n) d (with_seat seats n.0 seat)
due-upholds s w u d seats n e log seat upheld known due seated =
    let all : AllSeated s w u.run (with_due u.due n.0 log) (with_seat seats n.0 seat) =
    one-seated s w u.run u.run u.due seats n log seat (all-of s w u d seats upheld) known seated (λ (m : SessionNo) (at : Seat) (other : m.0 ≡ n.0 → ⊥) (rests : Rests s w u.run m at). rests) in
    subst (λ (v : Underway). IsUpheld s w v d (with_seat seats n.0 seat)) (sym (due-step s u n e log due))
    (record { reached = upheld.reached; leads = upheld.leads; stands = upheld.stands; many = all.many; many_due = all.many_due; seated = all.seated })

pub turn-upholds : (s : RunSetting) (w : Workload) (u : Underway) (d : Database) (seats : List Seat) (n : SessionNo) (p : Position) (turn : Turn) (seat : Seat) → IsUpheld s w u d seats → IsSession w n → KeepsPace s w (world_turn s u.run n) → due_at u.due n.0 ≡ [] → position_at u.run.plain.positions n.0 ≡ p
    → (world_turn s u.run n).turns ≡ u.run.turns ++ turn ∷ [] → IsSeated (session_setting s n) (due_from s u.run n p) (Rests s w (world_turn s u.run n) n) seat
    → IsUpheld s w (stepped s u n) (after_turn turn.what d) (with_seat seats n.0 seat)
unfolding version_now
turn-upholds s w u d seats n p turn seat upheld known later rests here turns seated =
    let next : WorldRun = world_turn s u.run n in
    let first : Database = first_version s w in
    let leads : after_turn turn.what d ≡ replay next.turns first =
    ap (λ (x : Database). after_turn turn.what x) upheld.leads ∙ sym (replay-last u.run.turns turn first) ∙ ap (λ (l : List Turn). replay l first) (sym turns) in
    let all : AllSeated s w next (with_due u.due n.0 (due_from s u.run n p)) (with_seat seats n.0 seat) =
    one-seated s w u.run next u.due seats n (due_from s u.run n p) seat (all-of s w u d seats upheld) known seated
    (λ (m : SessionNo) (at : Seat) (other : m.0 ≡ n.0 → ⊥) (rests : Rests s w u.run m at). others_stay s w u.run n m at other rests) in
    subst (λ (v : Underway). IsUpheld s w v (after_turn turn.what d) (with_seat seats n.0 seat)) (sym (turn-step s u n p rests here))
    (record {
      reached = turn-reached s w u.run n upheld.reached;
      leads = leads;
      stands = subst (λ (x : Database). Stands s.key x next.current) (sym leads) later.stands;
      many = all.many;
      many_due = all.many_due;
      seated = all.seated;
    })

-- ---- before the first entry

pub first-due : (scripts : List (List Piece)) (k : ℕ) → due_at (map (λ (_ : List Piece). []) scripts) k ≡ []
unfolding due_at
first-due scripts zero = refl
first-due [] (suc i) = refl
first-due (script ∷ scripts) (suc zero) = refl
first-due (script ∷ scripts) (suc (suc i)) = first-due scripts (suc i)

first-seat : (scripts : List (List Piece)) (i : ℕ) → get_or (map first_seat scripts) i (first_seat []) ≡ first_seat (get_or scripts i [])
first-seat [] i = refl
first-seat (script ∷ scripts) zero = refl
first-seat (script ∷ scripts) (suc i) = first-seat scripts i

first-session : (scripts : List (List Piece)) (i : ℕ) → get_or (map (λ (_ : List Piece). new_session) scripts) i new_session ≡ new_session
first-session [] i = refl
first-session (script ∷ scripts) zero = refl
first-session (script ∷ scripts) (suc i) = first-session scripts i

-- the script of a session
unfoldable pub script_at : List (List Piece) → ℕ → List Piece
script_at scripts zero = []
script_at scripts (suc i) = get_or scripts i []

seat-first : (scripts : List (List Piece)) (k : ℕ) → seat_at (map first_seat scripts) k ≡ first_seat (script_at scripts k)
unfolding seat_at script_at
seat-first scripts zero = refl
seat-first scripts (suc i) = first-seat scripts i

pub session-first : (scripts : List (List Piece)) (k : ℕ) → session_at (map (λ (_ : List Piece). new_session) scripts) k ≡ new_session
unfolding session_at
session-first scripts zero = refl
session-first scripts (suc i) = first-session scripts i

position-first : (w : Workload) (k : ℕ) → position_at (initial w).positions k ≡ ready 1 (script_at w.sessions k)
unfolding initial position_at script_at
position-first w zero = refl
position-first w (suc i) = initial_position w.sessions i

first-rests : (s : RunSetting) (w : Workload) (n : SessionNo) → Rests s w (first_run s w) n (first_seat (script_at w.sessions n.0))
unfolding Rests RestsAt first_run initial done_by new_session tried_on first_seat seat_of starts client_ready
first-rests s w n =
    let script : List Piece = script_at w.sessions n.0 in
    let rests : IsReady 1 script 0 [] (first_seat script) = record { client = refl; conn = refl } in
    subst (λ (p : Position). RestsAt s w (first_run s w) n p (first_seat script)) (sym (position-first w n.0))
    (subst (λ (x : Session). IsReady 1 script x.tried.seals [] (first_seat script)) (sym (session-first w.sessions n.0)) rests)

-- a session that rests where it is
pub seated-there : (s : RunSetting) (w : Workload) (r : WorldRun) (n : SessionNo) (seat : Seat) → Rests s w r n seat → IsSeated (session_setting s n) [] (Rests s w r n) seat
unfolding Talk AllAllowed Answers client_after conn_after seat_of
seated-there s w r n seat rests = record { talk = tt; allows = tt; answers = tt; rests = rests }

pub start_is_upheld : StartIsUpheld
unfolding first_underway first_run version_now replay world_turns
start_is_upheld s w = record {
  reached = record { turns = []; lead = refl };
  leads = refl;
  stands = first_stands s w;
  many = length-map w.sessions first_seat;
  many_due = length-map w.sessions (λ (_ : List Piece). []);
  seated = λ n known.
      subst (λ (l : List Exchange). IsSeated (session_setting s n) l (Rests s w (first_run s w) n) (seat_at (map first_seat w.sessions) n.0)) (sym (first-due w.sessions n.0))
      (subst (λ (x : Seat). IsSeated (session_setting s n) [] (Rests s w (first_run s w) n) x) (sym (seat-first w.sessions n.0))
      (seated-there s w (first_run s w) n (first_seat (script_at w.sessions n.0)) (first-rests s w n)));
}
