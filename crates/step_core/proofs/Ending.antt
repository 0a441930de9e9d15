-- A session has finished exactly where the run has nothing left of it; and a number that is none of the sessions' has nothing left.
use Rattle.std.proofs.Common.{◌≡◌, refl, sym, ◌∙◌, ap, subst, ℕ, zero, suc, ◌≤◌, List, [], ◌∷◌, Option, Some, None, map, length, get_or, inl, inr, arith}
use Rattle.std.proofs.lemmas.Bool.{cases_lt}
use Rattle.std.proofs.lemmas.List.{get_or_past}
use Rattle.mope_base.specs.declared.numbers.SessionNo.{SessionNo}
use Rattle.versions.specs.Databases.{Database}
use Rattle.walk_proto.specs.declared.messages.Exchange.{Exchange}
use Rattle.walk_proto.specs.declared.messages.Request.{Request}
use Rattle.workload.specs.declared.script.Workload.{Workload}
use Rattle.workload.specs.Run.{Run, Position, ready, initial, position_at, take_turns}
use Rattle.workload.specs.Validity.{IsValid}
use Rattle.plain_db.proofs.RunInvariant.{RunHolds}
use Rattle.plain_db.proofs.FinishLemmas.{initial_holds, take_turns_holds}
use Rattle.proxy.specs.Client.{wants}
use Rattle.proxy.specs.declared.outcomes.Settings.{Settings}
use Rattle.proxy.specs.Party.{Phase, fresh, waits, finished, stuck, spent, phase_for}
use Rattle.run_laws.specs.Worlds.{RunSetting, session_setting}
use Rattle.run_laws.specs.WorldRuns.{WorldRun, first_run}
use Rattle.run_laws.specs.Schedules.{Underway, due_at}
use Rattle.run_laws.specs.ScheduleLaws.{HasNothingLeft}
use Rattle.run_laws.specs.Seats.{Seat, seat_at}
use Rattle.run_laws.specs.SeatLaws.{IsSession, IsUpheld}
use Rattle.run_laws.specs.SteppingLaws.{NextBy, IsAtEnd}
use Rattle.run_laws.specs.TellingLaws.{IsReached}
use Rattle.run_laws.proofs.PaceOfRun.{steps_uphold}
use Rattle.run_laws.proofs.ShownSteps.{end_is_seated}
use Rattle.run_laws.proofs.WorldTurned.{plain-turns}
use Rattle.step_core.specs.Cores.{Cored, Follows, Sitting, run_setting, seat_in}
use Rattle.step_core.specs.Sittings.{StandsAt}
use Rattle.step_core.proofs.Places.{at_place, Made, made-at, known-at, wants-at}

-- ---- phases

IsFinished : Phase → Type 0
IsFinished fresh = ⊥
IsFinished (waits r) = ⊥
IsFinished finished = Unit {0}
IsFinished (stuck want got) = ⊥
IsFinished spent = ⊥

none-wanted : (o : Option Request) → phase_for o ≡ finished → o ≡ None
unfolding phase_for IsFinished
none-wanted None is = refl
none-wanted (Some r) is = absurd (subst IsFinished (sym is) tt)

pub not-both : (p : Phase) (r : Request) → p ≡ finished → p ≡ waits r → ⊥
unfolding IsFinished
not-both p r over waiting = subst IsFinished (sym over ∙ waiting) tt

-- ---- sessions of the workload

-- it is at its end where it has finished
pub at-end : (settings : Settings) (w : Workload) (u : Underway) (c : Cored) (i : ℕ) (x : Sitting) → IsValid w → Follows settings w u c → StandsAt i x c.sittings → x.party.phase ≡ finished
    → IsAtEnd (run_setting settings) u (map seat_in c.sittings) (at_place i)
at-end settings w u c i x valid follows stands over =
    let made : Made settings u (at_place i) x = made-at settings w u c i x follows stands in
    let none : wants x.party.setting x.party.client ≡ None = none-wanted (wants x.party.setting x.party.client) (sym made.has.phase ∙ over) in
    end_is_seated (run_setting settings) w u c.state.current (map seat_in c.sittings) (at_place i) valid follows.upheld (known-at settings w u c i x follows stands) (wants-at settings w u c i x follows stands ∙ none)

pub nothing-left : (settings : Settings) (w : Workload) (u : Underway) (c : Cored) (i : ℕ) (x : Sitting) → IsValid w → Follows settings w u c → StandsAt i x c.sittings → x.party.phase ≡ finished → HasNothingLeft u (at_place i)
nothing-left settings w u c i x valid follows stands over = (at-end settings w u c i x valid follows stands over).left

-- it has finished where nothing is left of it
pub has-finished : (settings : Settings) (w : Workload) (u : Underway) (c : Cored) (i : ℕ) (x : Sitting) → IsValid w → Follows settings w u c → StandsAt i x c.sittings → HasNothingLeft u (at_place i) → x.party.phase ≡ finished
unfolding NextBy phase_for
has-finished settings w u c i x valid follows stands left =
    let s : RunSetting = run_setting settings in
    let seats : List Seat = map seat_in c.sittings in
    let n : SessionNo = at_place i in
    let next : NextBy s w u c.state.current seats n (due_at u.due n.0) (position_at u.run.plain.positions n.0) = steps_uphold s w u c.state.current seats n valid follows.upheld (known-at settings w u c i x follows stands) in
    let rests : NextBy s w u c.state.current seats n [] (position_at u.run.plain.positions n.0) = subst (λ (log : List Exchange). NextBy s w u c.state.current seats n log (position_at u.run.plain.positions n.0)) left.rests next in
    let end : IsAtEnd s u seats n = subst (λ (p : Position). NextBy s w u c.state.current seats n [] p) left.over rests in
    let made : Made settings u n x = made-at settings w u c i x follows stands in
    made.has.phase ∙ ap phase_for (sym (wants-at settings w u c i x follows stands) ∙ end.ended)

-- ---- none of the sessions

no-due : (due : List (List Exchange)) (k count : ℕ) → length due ≡ count → (1 ≤ k → k ≤ count → ⊥) → due_at due k ≡ []
unfolding due_at
no-due due zero count many none = refl
no-due due (suc i) count many none =
    elim (cases_lt i (length due)) as (λ _. get_or due i [] ≡ []) [
      | inl within ↦ absurd (none (omega arith) (omega (arith, within, many)))
      | inr past ↦ get_or_past due i [] past
    ]

no-position : (positions : List Position) (k count : ℕ) → length positions ≡ count → (1 ≤ k → k ≤ count → ⊥) → position_at positions k ≡ ready 1 []
unfolding position_at
no-position positions zero count many none = refl
no-position positions (suc i) count many none =
    elim (cases_lt i (length positions)) as (λ _. get_or positions i (ready 1 []) ≡ ready 1 []) [
      | inl within ↦ absurd (none (omega arith) (omega (arith, within, many)))
      | inr past ↦ get_or_past positions i (ready 1 []) past
    ]

reached-size : (s : RunSetting) (w : Workload) (r : WorldRun) → IsReached s w r → length r.plain.positions ≡ length w.sessions
unfolding first_run
reached-size s w r reached =
    let plain : r.plain ≡ take_turns (initial w) reached.turns = ap (λ (q : WorldRun). q.plain) (sym reached.lead) ∙ plain-turns s (first_run s w) reached.turns in
    let holds : RunHolds w (take_turns (initial w) reached.turns) = take_turns_holds w (initial w) reached.turns (initial_holds w) in
    ap (λ (q : Run). length q.positions) plain ∙ holds.size

pub none-left : (s : RunSetting) (w : Workload) (u : Underway) (d : Database) (seats : List Seat) (n : SessionNo) → IsUpheld s w u d seats → (IsSession w n → ⊥) → HasNothingLeft u n
none-left s w u d seats n upheld none =
    let no : 1 ≤ n.0 → n.0 ≤ length w.sessions → ⊥ = λ (from : 1 ≤ n.0) (to : n.0 ≤ length w.sessions). none (record { from = from; to = to }) in
    record {
      rests = no-due u.due n.0 (length w.sessions) upheld.many_due no;
      place = 1;
      over = no-position u.run.plain.positions n.0 (length w.sessions) (reached-size s w u.run upheld.reached) no;
    }
