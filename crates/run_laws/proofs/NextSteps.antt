-- What a session does next, and that it keeps what is upheld.
use Rattle.std.proofs.Common.{◌≡◌, refl, sym, ◌∙◌, ap, subst, ℕ, suc, Bool, true, false, ltb, List, [], ◌∷◌, ◌++◌, length, append_assoc, append-nil, arith, Option}
use Rattle.mope_base.specs.declared.numbers.TableNo.{TableNo}
use Rattle.mope_base.specs.declared.numbers.ColNo.{ColNo}
use Rattle.mope_base.specs.declared.numbers.SessionNo.{SessionNo}
use Rattle.versions.specs.declared.turn.Turn.{Turn}
use Rattle.versions.specs.Databases.{Database, stamps_at}
use Rattle.versions.specs.Newer.{lowest_newer, last_change}
use Rattle.walk_proto.specs.declared.messages.Exchange.{Exchange}
use Rattle.walk_proto.specs.declared.messages.Reply.{Reply}
use Rattle.walk_proto.specs.declared.messages.Request.{Request}
use Rattle.walk_proto.specs.declared.messages.Request.TheVariants as request
use Rattle.workload.specs.declared.script.Piece.{Piece}
use Rattle.workload.specs.declared.script.Piece.TheVariants as piece
use Rattle.workload.specs.declared.script.Workload.{Workload}
use Rattle.workload.specs.Run.{Position, ready, committing, installing, position_at}
use Rattle.workload.specs.Transaction.{Work, Trial, work_of}
use Rattle.workload.specs.Validity.{IsValid}
use Rattle.proxy.specs.Client.{Setting, Client, wants, first_request, hears, taking_up}
use Rattle.proxy.specs.Talk.{Talk, AllAllowed, client_after}
use Rattle.proxy.specs.Tasks.{closes, rebuilds}
use Rattle.server_conn.specs.Connections.{Held, held_on, commit, install, Conn, idle, begins, holds, awaits, Served, wants_begin, wants_commit, wants_install, Step}
use Rattle.server_conn.specs.Serving.{serve, began}
use Rattle.server_conn.specs.Logs.{Answers, conn_after}
use Rattle.transaction_laws.specs.Ends.{MeetsTurn}
use Rattle.transaction_laws.specs.Transactions.{Tried, kept_ops, held_in}
use Rattle.transaction_laws.specs.Walks.{exchanged}
use Rattle.run_laws.specs.Worlds.{RunSetting, session_setting}
use Rattle.run_laws.specs.WorldRuns.{WorldRun, Session, new_session, first_run, session_at, world_at, world_turn}
use Rattle.run_laws.specs.Schedules.{Underway, due_at, with_due, first_underway, due_after_begin, due_from, stepped_by, stepped}
use Rattle.run_laws.specs.Seats.{Seat, seat_of, seat_at, IsSeated, client_ready, client_closing, done_by, IsReady, IsCommitting, IsInstalling, RestsAt, Rests}
use Rattle.run_laws.specs.TellingLaws.{version_now, begin_told, commit_told, install_told}
use Rattle.run_laws.specs.SeatLaws.{IsSession, IsUpheld}
use Rattle.run_laws.specs.SteppingLaws.{HasSaid, StartHasSaid, OthersHaveSaid, seat_heard, SaysDue, TakesTurn, TakesCommit, TakesInstall, IsAtEnd, NextBy, commit_reply, commit_step, install_reply, install_step}
use Rattle.run_laws.proofs.Paces.{KeepsPace}
use Rattle.run_laws.proofs.BeginSteps.{Begins, began_reply, client_now, txn-begins, rebuild-begins}
use Rattle.run_laws.proofs.ToldTurns.{begin-told, commit-told, install-told}
use Rattle.run_laws.proofs.Staying.{Keeps, turn-keeps}
use Rattle.run_laws.proofs.EndSteps.{commit-ends, install-ends}
use Rattle.run_laws.proofs.Upholding.{due-own, due-other, first-due, session-first, due-step, turn-step, due-upholds, turn-upholds}

-- ---- what a session has said

said-more : (said log due : List Exchange) (e : Exchange) → said ≡ log → (said ++ e ∷ []) ++ due ≡ log ++ e ∷ due
said-more said log due e same = append_assoc said (e ∷ []) due ∙ ap (λ (l : List Exchange). l ++ e ∷ due) same

-- one exchange more, where these remain
having-said : (s : RunSetting) (w : Workload) (u : Underway) (n : SessionNo) (r : WorldRun) (due said : List Exchange) (e : Exchange) → length u.due ≡ length w.sessions → IsSession w n → (said ++ e ∷ []) ++ due ≡ (session_at r.sessions n.0).log → stepped s u n ≡ record { run = r; due = with_due u.due n.0 due }
    → HasSaid (stepped s u n) n (said ++ e ∷ [])
having-said s w u n r due said e many known whole is =
    subst (λ (v : Underway). HasSaid v n (said ++ e ∷ [])) (sym is)
    (record { whole = ap (λ (l : List Exchange). (said ++ e ∷ []) ++ l) (due-own u.due n.0 due known.from (omega (arith, known.to, many))) ∙ whole })

said-all : (u : Underway) (n : SessionNo) (said : List Exchange) → due_at u.due n.0 ≡ [] → HasSaid u n said → said ≡ (session_at u.run.sessions n.0).log
said-all u n said rests has = sym (append-nil said) ∙ ap (λ (l : List Exchange). said ++ l) (sym rests) ∙ has.whole

-- ---- an exchange that remains

says-due : (s : RunSetting) (w : Workload) (u : Underway) (d : Database) (seats : List Seat) (n : SessionNo) (e : Exchange) (log : List Exchange) → IsUpheld s w u d seats → IsSession w n → due_at u.due n.0 ≡ e ∷ log → IsSeated (session_setting s n) (e ∷ log) (Rests s w u.run n) (seat_at seats n.0) → SaysDue s w u d seats n e
unfolding Talk AllAllowed Answers client_after conn_after seat_heard seat_of
says-due s w u d seats n e log upheld known due seated =
    let seat : Seat = seat_at seats n.0 in
    let later : IsSeated (session_setting s n) log (Rests s w u.run n) (seat_of (hears (session_setting s n) seat.client e.reply) (serve e.request seat.conn).conn) =
    record { talk = seated.talk.1; allows = seated.allows.1; answers = seated.answers.1; rests = seated.rests } in
    record {
      wanted = seated.talk.0;
      answered = seated.answers.0;
      allows = seated.allows.0;
      said = λ before has. having-said s w u n u.run log before e upheld.many_due known (append_assoc before (e ∷ []) log ∙ ap (λ (l : List Exchange). before ++ l) (sym due) ∙ has.whole) (due-step s u n e log due);
      upheld = due-upholds s w u d seats n e log (seat_of (hears (session_setting s n) seat.client e.reply) (serve e.request seat.conn).conn) upheld known due later;
    }

-- ---- a turn

takes : (s : RunSetting) (w : Workload) (u : Underway) (d : Database) (seats : List Seat) (n : SessionNo) (p : Position) (c : Client) (k : Conn) (asked : Request) (asks : Served) (waiting : Conn) (answer : Reply) (step : Step) (conn : Conn) (turn : Turn)
    → IsUpheld s w u d seats → IsSession w n → KeepsPace s w (world_turn s u.run n) → due_at u.due n.0 ≡ [] → position_at u.run.plain.positions n.0 ≡ p → (seat_at seats n.0).client ≡ c → (seat_at seats n.0).conn ≡ k
    → MeetsTurn (session_setting s n) c k asked asks waiting answer step (hears (session_setting s n) c answer) conn
    → (world_turn s u.run n).turns ≡ u.run.turns ++ turn ∷ []
    → (session_at (world_turn s u.run n).sessions n.0).log ≡ (session_at u.run.sessions n.0).log ++ exchanged asked answer ∷ due_from s u.run n p
    → IsSeated (session_setting s n) (due_from s u.run n p) (Rests s w (world_turn s u.run n) n) (seat_of (hears (session_setting s n) c answer) conn)
    → TakesTurn s w u d seats n asked asks waiting answer step conn turn
unfolding seat_heard
takes s w u d seats n p c k asked asks waiting answer step conn turn upheld known later rests here client conn_is meets turns logged seated =
    let one : Setting = session_setting s n in
    let seat : Seat = seat_at seats n.0 in
    record {
      meets =
          subst (λ (x : Client). MeetsTurn one x seat.conn asked asks waiting answer step (hears one x answer) conn) (sym client)
          (subst (λ (x : Conn). MeetsTurn one c x asked asks waiting answer step (hears one c answer) conn) (sym conn_is) meets);
      turns = ap (λ (v : Underway). v.run.turns) (turn-step s u n p rests here) ∙ turns;
      said = λ before has.
          having-said s w u n (world_turn s u.run n) (due_from s u.run n p) before (exchanged asked answer) upheld.many_due known
          (said-more before (session_at u.run.sessions n.0).log (due_from s u.run n p) (exchanged asked answer) (said-all u n before rests has) ∙ sym logged) (turn-step s u n p rests here);
      upheld =
          turn-upholds s w u d seats n p turn (seat_of (hears one seat.client answer) conn) upheld known later rests here turns
          (subst (λ (x : Client). IsSeated one (due_from s u.run n p) (Rests s w (world_turn s u.run n) n) (seat_of (hears one x answer) conn)) (sym client) seated);
    }

-- ---- its begin

begins-next : (s : RunSetting) (w : Workload) (u : Underway) (seats : List Seat) (n : SessionNo) (place : ℕ) (p : Piece) (rest : List Piece) → IsUpheld s w u (version_now s w u.run) seats → IsSession w n → IsValid w → KeepsPace s w u.run → KeepsPace s w (world_turn s u.run n) → due_at u.due n.0 ≡ [] → position_at u.run.plain.positions n.0 ≡ ready place (p ∷ rest)
    → IsReady place (p ∷ rest) (session_at u.run.sessions n.0).tried.seals (done_by n.0 u.run.plain.done) (seat_at seats n.0) → Begins s w u.run n (client_now u.run n place (p ∷ rest)) (version_now s w u.run) (due_after_begin s u.run.current n (session_at u.run.sessions n.0) p)
    → NextBy s w u (version_now s w u.run) seats n [] (ready place (p ∷ rest))
unfolding NextBy due_from began_reply client_now
begins-next s w u seats n place p rest upheld known valid pace later rests here ready_is goes =
    let d : Database = version_now s w u.run in
    takes s w u d seats n (ready place (p ∷ rest)) (client_now u.run n place (p ∷ rest)) idle request.Begin wants_begin begins (began_reply d) (began d) (holds (held_on d)) (begin_told n d) upheld known later rests here ready_is.client ready_is.conn goes.meets (begin-told s w u.run n place p rest pace here) goes.logged goes.seated

-- ---- its commit and its install

commits-next : (s : RunSetting) (w : Workload) (u : Underway) (seats : List Seat) (n : SessionNo) (place base : ℕ) (work : Work) (rest : List Piece) → IsUpheld s w u (version_now s w u.run) seats → IsSession w n → KeepsPace s w u.run → KeepsPace s w (world_turn s u.run n) → due_at u.due n.0 ≡ [] → position_at u.run.plain.positions n.0 ≡ committing place base work rest
    → IsCommitting s w u.run n place base work rest (session_at u.run.sessions n.0).tried (seat_at seats n.0) → TakesCommit s w u (version_now s w u.run) seats n
unfolding held_in due_from work_of
commits-next s w u seats n place base work rest upheld known pace later rests here waits =
    let d : Database = version_now s w u.run in
    let tried : Tried = (session_at u.run.sessions n.0).tried in
    let held : Held = held_in s.key waits.version (world_at u.run base).stores tried in
    let found : Option (TableNo × ℕ) = lowest_newer 0 d.stamps held.base.number held.touched in
    let c : Client = client_closing (closes false waits.acts) place base work.answers rest tried.seals (done_by n.0 u.run.plain.done) in
    let ends = commit-ends s w u.run n place base work rest tried (seat_at seats n.0) pace known here refl waits in
    let touched : held.touched ≡ work.touched = ap (λ (x : Trial). (work_of x).touched) waits.plain in
    let told : (world_turn s u.run n).turns ≡ u.run.turns ++ commit_told n found held.ops d ∷ [] =
    commit-told s w u.run n place base work rest pace later here
    ∙ ap (λ (mode : Bool). u.run.turns ++ commit_told n (lowest_newer 0 d.stamps base work.touched) (kept_ops s.key mode tried.ops (world_at u.run base).stores) d ∷ []) (sym waits.begun.mode)
    ∙ ap (λ (k : ℕ). u.run.turns ++ commit_told n (lowest_newer 0 d.stamps k work.touched) held.ops d ∷ []) (sym waits.begun.number)
    ∙ ap (λ (tables : List TableNo). u.run.turns ++ commit_told n (lowest_newer 0 d.stamps held.base.number tables) held.ops d ∷ []) (sym touched) in
    record {
      held = held;
      holds_it = waits.conn;
      earlier = waits.begun.earlier;
      takes = takes s w u d seats n (committing place base work rest) c (holds held) (request.End true) wants_commit (awaits held commit) (commit_reply found (suc d.number)) (commit_step found (suc d.number)) idle (commit_told n found held.ops d) upheld known later rests here waits.client waits.conn ends.meets told ends.logged ends.seated;
    }

installs-next : (s : RunSetting) (w : Workload) (u : Underway) (seats : List Seat) (n : SessionNo) (place base : ℕ) (t : TableNo) (column : ColNo) (rest : List Piece) → IsUpheld s w u (version_now s w u.run) seats → IsSession w n → KeepsPace s w u.run → KeepsPace s w (world_turn s u.run n) → due_at u.due n.0 ≡ [] → position_at u.run.plain.positions n.0 ≡ installing place base t column rest
    → IsInstalling s w u.run n place base t column rest (session_at u.run.sessions n.0).tried.seals (seat_at seats n.0) → TakesInstall s w u (version_now s w u.run) seats n t column
unfolding due_from
installs-next s w u seats n place base t column rest upheld known pace later rests here waits =
    let d : Database = version_now s w u.run in
    let seals : ℕ = (session_at u.run.sessions n.0).tried.seals in
    let newer : ℕ = last_change (stamps_at d.stamps t.0) in
    let stale : Bool = ltb waits.version.number newer in
    let c : Client = client_closing (rebuilds t column) place base [] rest seals (done_by n.0 u.run.plain.done) in
    let ends = install-ends s w u.run n place base t column rest seals (seat_at seats n.0) pace known here refl waits in
    let told : (world_turn s u.run n).turns ≡ u.run.turns ++ install_told n t column stale newer d ∷ [] =
    install-told s w u.run n place base t column rest pace later here
    ∙ ap (λ (k : ℕ). u.run.turns ++ install_told n t column (ltb k newer) newer d ∷ []) (sym waits.begun.number) in
    record {
      base = waits.version;
      holds_it = waits.conn;
      earlier = waits.begun.earlier;
      takes = takes s w u d seats n (installing place base t column rest) c (holds (held_on waits.version)) (request.Rebuild t column) (wants_install t column) (awaits (held_on waits.version) (install t column)) (install_reply t stale newer (suc d.number)) (install_step t stale newer (suc d.number)) idle (install_told n t column stale newer d) upheld known later rests here waits.client waits.conn ends.meets told ends.logged ends.seated;
    }

-- ---- its end

at-end : (s : RunSetting) (w : Workload) (u : Underway) (seats : List Seat) (n : SessionNo) (place : ℕ) → due_at u.due n.0 ≡ [] → position_at u.run.plain.positions n.0 ≡ ready place [] → IsReady place [] (session_at u.run.sessions n.0).tried.seals (done_by n.0 u.run.plain.done) (seat_at seats n.0) → IsAtEnd s u seats n
unfolding client_ready taking_up wants first_request
at-end s w u seats n place rests over is = record {
  left = record { rests = rests; place = place; over = over };
  said = λ before has. said-all u n before rests has;
  ended = ap (λ (c : Client). wants (session_setting s n) c) is.client;
  done = ap (λ (c : Client). c.done) is.client;
  conn = is.conn;
}

-- ---- all of it

resting : (s : RunSetting) (w : Workload) (u : Underway) (seats : List Seat) (n : SessionNo) (p : Position) → position_at u.run.plain.positions n.0 ≡ p → IsSeated (session_setting s n) [] (Rests s w u.run n) (seat_at seats n.0) → RestsAt s w u.run n p (seat_at seats n.0)
unfolding Rests client_after conn_after seat_of
resting s w u seats n p here seated = subst (λ (q : Position). RestsAt s w u.run n q (seat_at seats n.0)) here seated.rests

pub next-by : (s : RunSetting) (w : Workload) (u : Underway) (seats : List Seat) (n : SessionNo) (log : List Exchange) (p : Position) → IsUpheld s w u (version_now s w u.run) seats → IsSession w n → IsValid w → KeepsPace s w u.run → KeepsPace s w (world_turn s u.run n) → due_at u.due n.0 ≡ log → position_at u.run.plain.positions n.0 ≡ p
    → IsSeated (session_setting s n) log (Rests s w u.run n) (seat_at seats n.0) → NextBy s w u (version_now s w u.run) seats n log p
unfolding NextBy RestsAt
next-by s w u seats n (e ∷ log) p upheld known valid pace later due here seated = says-due s w u (version_now s w u.run) seats n e log upheld known due seated
next-by s w u seats n [] (ready place []) upheld known valid pace later due here seated = at-end s w u seats n place due here (resting s w u seats n (ready place []) here seated)
next-by s w u seats n [] (ready place (piece.Txn acts rollback ∷ rest)) upheld known valid pace later due here seated =
    begins-next s w u seats n place (piece.Txn acts rollback) rest upheld known valid pace later due here (resting s w u seats n (ready place (piece.Txn acts rollback ∷ rest)) here seated) (txn-begins s w u.run n place acts rollback rest pace valid known here)
next-by s w u seats n [] (ready place (piece.Rebuild t column ∷ rest)) upheld known valid pace later due here seated =
    begins-next s w u seats n place (piece.Rebuild t column) rest upheld known valid pace later due here (resting s w u seats n (ready place (piece.Rebuild t column ∷ rest)) here seated) (rebuild-begins s w u.run n place t column rest pace valid known here)
next-by s w u seats n [] (committing place base work rest) upheld known valid pace later due here seated =
    commits-next s w u seats n place base work rest upheld known pace later due here (resting s w u seats n (committing place base work rest) here seated)
next-by s w u seats n [] (installing place base t column rest) upheld known valid pace later due here seated =
    installs-next s w u seats n place base t column rest upheld known pace later due here (resting s w u seats n (installing place base t column rest) here seated)

-- ---- what is said at the start, and by others

pub start_has_said : StartHasSaid
unfolding first_underway first_run new_session
start_has_said s w n = record { whole = ap (λ (l : List Exchange). [] ++ l) (first-due w.sessions n.0) ∙ sym (ap (λ (x : Session). x.log) (session-first w.sessions n.0)) }

others-said : (s : RunSetting) (u : Underway) (log : List Exchange) (n other : SessionNo) (said : List Exchange) → (other.0 ≡ n.0 → ⊥) → HasSaid u other said → HasSaid (stepped_by s log u n) other said
unfolding stepped_by
others-said s u [] n other said apart has =
    let keeps : Keeps u.run (world_turn s u.run n) other.0 = turn-keeps s u.run n (position_at u.run.plain.positions n.0) other.0 refl apart in
    record {
      whole =
          ap (λ (l : List Exchange). said ++ l) (due-other u.due n.0 other.0 (due_from s u.run n (position_at u.run.plain.positions n.0)) apart)
          ∙ has.whole
          ∙ sym (ap (λ (x : Session). x.log) keeps.session);
    }
others-said s u (e ∷ log) n other said apart has = record { whole = ap (λ (l : List Exchange). said ++ l) (due-other u.due n.0 other.0 log apart) ∙ has.whole }

pub others_have_said : OthersHaveSaid
unfolding stepped
others_have_said s u n other said apart has = others-said s u (due_at u.due n.0) n other said apart has
