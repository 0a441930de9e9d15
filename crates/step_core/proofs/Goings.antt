-- What a session's request comes to on the current version is the next step of the run under way.
use Rattle.std.proofs.Common.{◌≡◌, ◌∙◌, ◌++◌, ℕ, suc, Bool, true, false, ltb, List, [], ◌∷◌, Option, Some, None, refl, sym, ap, subst}
use Rattle.std.proofs.lemmas.List.{append-nil}
use Rattle.mope_base.specs.declared.numbers.ColNo.{ColNo}
use Rattle.mope_base.specs.declared.numbers.SessionNo.{SessionNo}
use Rattle.mope_base.specs.declared.numbers.TableNo.{TableNo}
use Rattle.versions.specs.declared.turn.TurnKind.TheVariants as kind
use Rattle.versions.specs.Databases.{Database}
use Rattle.versions.specs.Turns.{replay, after_turn, changes_by}
use Rattle.walk_proto.specs.declared.messages.Exchange.{Exchange}
use Rattle.walk_proto.specs.declared.messages.Request.{Request}
use Rattle.walk_proto.specs.declared.messages.Request.TheVariants as request
use Rattle.workload.specs.declared.script.Workload.{Workload}
use Rattle.workload.specs.Run.{Position, ready, committing, installing, position_at}
use Rattle.workload.specs.Validity.{IsValid}
use Rattle.proxy.specs.Allowed.{allowed}
use Rattle.proxy.specs.Client.{wants}
use Rattle.server_conn.specs.Connections.{idle, awaits, commit, install, Held, held_on, wants_commit, wants_install, Step}
use Rattle.server_conn.specs.Serving.{serve}
use Rattle.run_laws.specs.Worlds.{RunSetting, session_setting}
use Rattle.run_laws.specs.Schedules.{Underway, due_at, stepped, stepped_by}
use Rattle.run_laws.specs.Seats.{Seat, seat_at, with_seat}
use Rattle.run_laws.specs.SeatLaws.{IsSession, IsUpheld}
use Rattle.transaction_laws.specs.Walks.{exchanged}
use Rattle.run_laws.specs.SteppingLaws.{HasSaid, NextBy, seat_heard, SaysDue, TakesTurn, TakesBegin, commit_reply, commit_step, install_reply, install_step}
use Rattle.run_laws.specs.TellingLaws.{begin_told, commit_told, install_told}
use Rattle.txn_core.specs.Outcomes.{conflict_on, commit_kind, committed_or, changed_by, install_kind, stale_if, turn_on}
use Rattle.run_laws.proofs.PaceOfRun.{steps_uphold}
use Rattle.step_core.specs.Outcomes.{Outcome, outcome, outcome_by, turn_asked, turn_outcome, reply_for, conn_after_turn}

-- a request comes to something that the client allows, and what is upheld stays so
pub record Goes (s : RunSetting) (w : Workload) (u : Underway) (d : Database) (seats : List Seat) (n : SessionNo) (r : Request) : Type 0 where
  pub came : Outcome
  pub is : outcome n d r (seat_at seats n.0).conn ≡ Some came
  pub allows : allowed (seat_at seats n.0).client came.reply ≡ true
  pub turns : (stepped s u n).run.turns ≡ u.run.turns ++ came.turns
  pub said : (before : List Exchange) → HasSaid u n before → HasSaid (stepped s u n) n (before ++ exchanged r came.reply ∷ [])
  pub upheld : IsUpheld s w (stepped s u n) (replay came.turns d) (with_seat seats n.0 (seat_heard s n came.reply came.conn (seat_at seats n.0)))

-- ---- turns

begin-goes : (s : RunSetting) (w : Workload) (u : Underway) (d : Database) (seats : List Seat) (n : SessionNo) → TakesBegin s w u d seats n → Goes s w u d seats n request.Begin
unfolding exchanged outcome outcome_by turn_asked turn_outcome reply_for conn_after_turn turn_on changes_by replay after_turn begin_told seat_heard
begin-goes s w u d seats n takes = record {
  came = turn_outcome n d (kind.Began d.number);
  is = ap (λ (step : Step). outcome_by n d step.served step.conn) takes.meets.asked;
  allows = takes.meets.allows;
  turns = takes.turns;
  said = takes.said;
  upheld = takes.upheld;
}

-- of a commit, by whether a table that it touched was written since
commit-goes-by : (s : RunSetting) (w : Workload) (u : Underway) (d : Database) (seats : List Seat) (n : SessionNo) (held : Held) (newer : Option (TableNo × ℕ)) → conflict_on d held.base.number held.touched ≡ newer
    → TakesTurn s w u d seats n (request.End true) wants_commit (awaits held commit) (commit_reply newer (suc d.number)) (commit_step newer (suc d.number)) idle (commit_told n newer held.ops d)
    → Goes s w u d seats n (request.End true)
unfolding exchanged outcome outcome_by turn_asked turn_outcome reply_for conn_after_turn turn_on changes_by replay after_turn commit_told commit_kind committed_or commit_reply seat_heard
commit-goes-by s w u d seats n held None same takes = record {
  came = turn_outcome n d (kind.Committed (suc d.number) held.ops);
  is =
      ap (λ (step : Step). outcome_by n d step.served step.conn) takes.meets.asked
      ∙ ap (λ newer. let o : Option Outcome = Some (turn_outcome n d (committed_or newer (suc d.number) held.ops)) in o) same;
  allows = takes.meets.allows;
  turns = takes.turns;
  said = takes.said;
  upheld = takes.upheld;
}
commit-goes-by s w u d seats n held (Some newer) same takes = record {
  came = turn_outcome n d (kind.Conflict newer.0 newer.1);
  is =
      ap (λ (step : Step). outcome_by n d step.served step.conn) takes.meets.asked
      ∙ ap (λ newer. let o : Option Outcome = Some (turn_outcome n d (committed_or newer (suc d.number) held.ops)) in o) same;
  allows = takes.meets.allows;
  turns = takes.turns;
  said = takes.said;
  upheld = takes.upheld;
}

-- of an install, by whether its table was changed since
install-goes-by : (s : RunSetting) (w : Workload) (u : Underway) (d : Database) (seats : List Seat) (n : SessionNo) (t : TableNo) (column : ColNo) (base : Database) (stale : Bool) (newer : ℕ)
    → changed_by d t ≡ newer → ltb base.number newer ≡ stale
    → TakesTurn s w u d seats n (request.Rebuild t column) (wants_install t column) (awaits (held_on base) (install t column)) (install_reply t stale newer (suc d.number)) (install_step t stale newer (suc d.number)) idle (install_told n t column stale newer d)
    → Goes s w u d seats n (request.Rebuild t column)
unfolding exchanged outcome outcome_by turn_asked turn_outcome reply_for conn_after_turn turn_on changes_by replay after_turn install_told install_kind stale_if install_reply held_on seat_heard
install-goes-by s w u d seats n t column base true newer changed is takes = record {
  came = turn_outcome n d (kind.Stale t newer);
  is =
      ap (λ (step : Step). outcome_by n d step.served step.conn) takes.meets.asked
      ∙ ap (λ number. let o : Option Outcome = Some (turn_outcome n d (stale_if (ltb base.number number) number (suc d.number) t column)) in o) changed
      ∙ ap (λ b. let o : Option Outcome = Some (turn_outcome n d (stale_if b newer (suc d.number) t column)) in o) is;
  allows = takes.meets.allows;
  turns = takes.turns;
  said = takes.said;
  upheld = takes.upheld;
}
install-goes-by s w u d seats n t column base false newer changed is takes = record {
  came = turn_outcome n d (kind.Installed (suc d.number) t column);
  is =
      ap (λ (step : Step). outcome_by n d step.served step.conn) takes.meets.asked
      ∙ ap (λ number. let o : Option Outcome = Some (turn_outcome n d (stale_if (ltb base.number number) number (suc d.number) t column)) in o) changed
      ∙ ap (λ b. let o : Option Outcome = Some (turn_outcome n d (stale_if b newer (suc d.number) t column)) in o) is;
  allows = takes.meets.allows;
  turns = takes.turns;
  said = takes.said;
  upheld = takes.upheld;
}

-- ---- an exchange that is due

due-goes : (s : RunSetting) (w : Workload) (u : Underway) (d : Database) (seats : List Seat) (n : SessionNo) (e : Exchange) (log : List Exchange) → due_at u.due n.0 ≡ e ∷ log → SaysDue s w u d seats n e → Goes s w u d seats n e.request
unfolding exchanged outcome outcome_by replay stepped stepped_by
due-goes s w u d seats n e log left says = record {
  came = record { reply = e.reply; conn = (serve e.request (seat_at seats n.0).conn).conn; turns = [] };
  is = ap (λ served. outcome_by n d served (serve e.request (seat_at seats n.0).conn).conn) says.answered;
  allows = says.allows;
  turns = ap (λ l. (stepped_by s l u n).run.turns) left ∙ sym (append-nil u.run.turns);
  said = says.said;
  upheld = says.upheld;
}

-- ---- a request that is wanted

wanted_or : Request → Option Request → Request
wanted_or other None = other
wanted_or other (Some r) = r

IsWanted : Option Request → Type 0
IsWanted None = ⊥
IsWanted (Some r) = Unit {0}

pub same-wanted : (o : Option Request) (r q : Request) → o ≡ Some r → o ≡ Some q → r ≡ q
unfolding wanted_or
same-wanted o r q one other = ap (λ (x : Option Request). wanted_or r x) (sym one ∙ other)

pub never : {A : Type 0} (o : Option Request) (r : Request) → o ≡ None → o ≡ Some r → A
unfolding IsWanted
never o r none some = absurd (subst IsWanted (sym (sym none ∙ some)) tt)

goes-by : (s : RunSetting) (w : Workload) (u : Underway) (d : Database) (seats : List Seat) (n : SessionNo) (log : List Exchange) (p : Position) → due_at u.due n.0 ≡ log → NextBy s w u d seats n log p → (r : Request) → wants (session_setting s n) (seat_at seats n.0).client ≡ Some r
    → Goes s w u d seats n r
unfolding NextBy conflict_on changed_by
goes-by s w u d seats n (e ∷ log) p left next r wanted =
    subst (Goes s w u d seats n) (same-wanted (wants (session_setting s n) (seat_at seats n.0).client) e.request r next.wanted wanted) (due-goes s w u d seats n e log left next)
goes-by s w u d seats n [] (ready place []) left next r wanted = never (wants (session_setting s n) (seat_at seats n.0).client) r next.ended wanted
goes-by s w u d seats n [] (ready place (p ∷ rest)) left next r wanted =
    subst (Goes s w u d seats n) (same-wanted (wants (session_setting s n) (seat_at seats n.0).client) request.Begin r next.meets.wanted wanted) (begin-goes s w u d seats n next)
goes-by s w u d seats n [] (committing place base work rest) left next r wanted =
    subst (Goes s w u d seats n) (same-wanted (wants (session_setting s n) (seat_at seats n.0).client) (request.End true) r next.takes.meets.wanted wanted)
    (commit-goes-by s w u d seats n next.held (conflict_on d next.held.base.number next.held.touched) refl next.takes)
goes-by s w u d seats n [] (installing place base t column rest) left next r wanted =
    subst (Goes s w u d seats n) (same-wanted (wants (session_setting s n) (seat_at seats n.0).client) (request.Rebuild t column) r next.takes.meets.wanted wanted)
    (install-goes-by s w u d seats n t column next.base (ltb next.base.number (changed_by d t)) (changed_by d t) refl refl next.takes)

-- what a session's client wants comes to the next step of the run under way
pub goes : (s : RunSetting) (w : Workload) (u : Underway) (d : Database) (seats : List Seat) (n : SessionNo) → IsValid w → IsUpheld s w u d seats → IsSession w n → (r : Request) → wants (session_setting s n) (seat_at seats n.0).client ≡ Some r → Goes s w u d seats n r
goes s w u d seats n valid upheld known r wanted =
    goes-by s w u d seats n (due_at u.due n.0) (position_at u.run.plain.positions n.0) refl (steps_uphold s w u d seats n valid upheld known) r wanted
