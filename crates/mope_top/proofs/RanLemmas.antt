-- A run by a core: before its first exchange, under a schedule, and at its end.
use Rattle.std.proofs.Common.{◌≡◌, refl, sym, ◌∙◌, ap, subst, ℕ, zero, suc, ◌+◌, ◌<◌, ◌≤◌, List, [], ◌∷◌, ◌++◌, get_or, length, map, take, inl, inr, arith}
use Rattle.std.proofs.lemmas.Bool.{cases_lt}
use Rattle.std.proofs.lemmas.List.{get_or_past, length-take-le, take_more}
use Rattle.command_words.specs.declared.order.Schedule.{Schedule}
use Rattle.command_words.specs.declared.order.Schedule.TheVariants.{Round, Listed}
use Rattle.mope_base.specs.Lists.{Each}
use Rattle.mope_base.specs.declared.numbers.SessionNo.{SessionNo}
use Rattle.mope_top.specs.Ran.{HasCome, Ran, RoundsOn}
use Rattle.mope_top.specs.Replays.{AreTurnsBy, rounds}
use Rattle.mope_top.proofs.Rounds.{Shown, Told, grows_on}
use Rattle.proxy.specs.declared.outcomes.Finished.{Finished}
use Rattle.proxy.specs.declared.outcomes.Settings.{Settings}
use Rattle.run_laws.specs.ScheduleLaws.{HasNothingLeft}
use Rattle.run_laws.specs.Schedules.{Underway, due_at, first_underway, run_under, scheduled, turns_under}
use Rattle.run_laws.specs.SeatLaws.{IsSession}
use Rattle.run_laws.specs.SteppingLaws.{HasSaid}
use Rattle.run_laws.specs.TellingLaws.{version_now}
use Rattle.run_laws.specs.WorldRuns.{WorldRun, world_run}
use Rattle.run_laws.specs.Worlds.{RunSetting}
use Rattle.run_laws.proofs.NextSteps.{start_has_said}
use Rattle.run_laws.proofs.PaceOfRun.{pace}
use Rattle.run_laws.proofs.ScheduleLemmas.{turns_under_give_run}
use Rattle.step_core.specs.Cores.{Cored, Follows, HasReadable, end_of, finished_in, run_setting}
use Rattle.step_core.specs.Shown.{AreAll, AreMade, GrowsTo, said_by}
use Rattle.txn_core.specs.Courses.{Course}
use Rattle.walk_proto.specs.declared.messages.Exchange.{Exchange}
use Rattle.workload.specs.declared.script.Piece.{Piece}
use Rattle.workload.specs.declared.script.Workload.{Workload}
use Rattle.workload.specs.Run.{Position, position_at, ready, session_numbers}
use Rattle.workload.specs.Validity.{IsValid}

-- ---- the numbers of the sessions

numbers-append : (from : ℕ) (scripts more : List (List Piece)) → session_numbers from (scripts ++ more) ≡ session_numbers from scripts ++ session_numbers (from + length scripts) more
unfolding session_numbers
numbers-append from [] more = ap (λ (k : ℕ). session_numbers k more) (let same : from ≡ from + 0 = omega arith in same)
numbers-append from (script ∷ scripts) more =
    ap (λ (l : List SessionNo). record { 0 = from } ∷ l)
    (numbers-append (suc from) scripts more ∙ ap (λ (k : ℕ). session_numbers (suc from) scripts ++ session_numbers k more) (let same : suc from + length scripts ≡ from + suc (length scripts) = omega arith in same))

pub numbers_more : (scripts : List (List Piece)) (i : ℕ) (n : SessionNo) → i < length scripts → n.0 ≡ i + 1 → session_numbers 1 (take (i + 1) scripts) ≡ session_numbers 1 (take i scripts) ++ n ∷ []
unfolding session_numbers
numbers_more scripts i n within is =
    let count : length (take i scripts) ≡ i = length-take-le i scripts (omega (arith, within)) in
    let same : 1 + length (take i scripts) ≡ n.0 = omega (arith, count, is) in
    ap (λ (l : List (List Piece)). session_numbers 1 l) (take_more scripts i [] within)
    ∙ numbers-append 1 (take i scripts) (get_or scripts i [] ∷ [])
    ∙ ap (λ (k : ℕ). session_numbers 1 (take i scripts) ++ record { 0 = k } ∷ []) same

-- a fact of all of them
each-number : (P : SessionNo → Type 0) (from : ℕ) (scripts : List (List Piece)) (n : SessionNo) → Each P (session_numbers from scripts) → from ≤ n.0 → n.0 < from + length scripts → P n
unfolding session_numbers Each
each-number P from [] n each low high = absurd (let no : ⊥ = omega (arith, low, high) in no)
each-number P from (script ∷ scripts) n each low high =
    elim (cases_lt from n.0) [
      | inl later ↦ each-number P (suc from) scripts n each.1 (omega (arith, later)) (omega (arith, high))
      | inr here ↦
          let same : from ≡ n.0 = omega (arith, low, here) in
          subst (λ (k : ℕ). P (record { 0 = k })) same each.0
    ]

-- ---- numbers that have nothing left

no-due : (due : List (List Exchange)) (k count : ℕ) → length due ≡ count → (1 ≤ k → k ≤ count → ⊥) → due_at due k ≡ []
unfolding due_at
no-due due zero count many none = refl
no-due due (suc i) count many none =
    elim (cases_lt i (length due)) as (λ _. get_or due i [] ≡ []) [
      | inl within ↦ absurd (none (omega arith) (omega (arith, within, many)))
      | inr past ↦ get_or_past due i [] past
    ]

no-position : (positions : List Position) (k count : ℕ) → length positions ≡ count → (1 ≤ k → k ≤ count → ⊥) → position_at positions k ≡ ready 1 []
unfolding position_at
no-position positions zero count many none = refl
no-position positions (suc i) count many none =
    elim (cases_lt i (length positions)) as (λ _. get_or positions i (ready 1 []) ≡ ready 1 []) [
      | inl within ↦ absurd (none (omega arith) (omega (arith, within, many)))
      | inr past ↦ get_or_past positions i (ready 1 []) past
    ]

-- a number that is none of the sessions'
none-left : (settings : Settings) (w : Workload) (u : Underway) (c : Cored) (n : SessionNo) → IsValid w → Follows settings w u c → (1 ≤ n.0 → n.0 ≤ length w.sessions → ⊥) → HasNothingLeft u n
none-left settings w u c n valid follows none = record {
  rests = no-due u.due n.0 (length w.sessions) follows.upheld.many_due none;
  place = 1;
  over = no-position u.run.plain.positions n.0 (length w.sessions) (pace (run_setting settings) w u.run valid follows.upheld.reached).positions none;
}

-- so no number has, where no session has
pub all_left : (settings : Settings) (w : Workload) (u : Underway) (c : Cored) → IsValid w → Follows settings w u c → Each (HasNothingLeft u) (session_numbers 1 w.sessions) → (n : SessionNo) → HasNothingLeft u n
all_left settings w u c valid follows rest n =
    elim (cases_lt 0 n.0) [
      | inr none ↦ none-left settings w u c n valid follows (λ from to. omega (arith, none, from))
      | inl some ↦
          elim (cases_lt (length w.sessions) n.0) [
            | inl past ↦ none-left settings w u c n valid follows (λ from to. omega (arith, past, to))
            | inr within ↦ each-number (HasNothingLeft u) 1 w.sessions n rest (omega (arith, some)) (omega (arith, within))
          ]
    ]

-- ---- under a schedule

-- nothing was shown before the first exchange
pub none_made : (s : RunSetting) (w : Workload) → AreMade w (first_underway s w) []
unfolding said_by
none_made s w n known = start_has_said s w n

pub come_in_rounds : (settings : Settings) (w : Workload) (c : Cored) (before after : Told) (sessions : List SessionNo) → IsValid w → sessions ≡ session_numbers 1 w.sessions
    → RoundsOn settings w (first_underway (run_setting settings) w) sessions [] c before after → HasCome settings w Round c before after
come_in_rounds settings w c before after sessions valid are on =
    let s : RunSetting = run_setting settings in
    let here : RoundsOn settings w (first_underway s w) (session_numbers 1 w.sessions) [] c before after =
    subst (λ (l : List SessionNo). RoundsOn settings w (first_underway s w) l [] c before after) are on in
    record {
      entries = rounds here.count (session_numbers 1 w.sessions);
      by = record {
        count = here.count;
        ended = all_left settings w (scheduled s (first_underway s w) (rounds here.count (session_numbers 1 w.sessions))) c valid here.follows here.rest;
        are = refl;
      };
      follows = here.follows;
      shows = here.shows;
    }

pub come_as_listed : (settings : Settings) (w : Workload) (c : Cored) (before after : Told) (sessions : List SessionNo)
    → Follows settings w (scheduled (run_setting settings) (first_underway (run_setting settings) w) sessions) c
    → GrowsTo before after [] (AreMade w (scheduled (run_setting settings) (first_underway (run_setting settings) w) sessions)) → HasCome settings w (Listed sessions) c before after
come_as_listed settings w c before after sessions follows shows = record { entries = sessions; by = refl; follows = follows; shows = shows }

-- ---- at its end

-- what a core gives at its end, of the run under way that it follows
pub record Ends (settings : Settings) (w : Workload) (u : Underway) (finished : List Finished) (state : Course) (before after : Told) : Type 0 where
  pub scripts : finished ≡ map (finished_in settings.keep (end_of (run_setting settings) w u)) (session_numbers 1 w.sessions)
  pub readable : Each HasReadable finished
  pub turns : state.turns ≡ (end_of (run_setting settings) w u).turns
  pub current : state.current ≡ version_now (run_setting settings) w (end_of (run_setting settings) w u)
  pub shows : (shown : Shown) → AreMade w u shown → GrowsTo before after shown (AreAll w (end_of (run_setting settings) w u))

-- of the turns of the entries
run-of : (s : RunSetting) (w : Workload) (entries : List SessionNo) → end_of s w (scheduled s (first_underway s w) entries) ≡ world_run s w (turns_under s w entries)
unfolding end_of run_under
run-of s w entries = sym (turns_under_give_run s w entries)

pub ends_ran : (settings : Settings) (w : Workload) (schedule : Schedule) (c : Cored) (finished : List Finished) (state : Course) (before middle after : Told) (come : HasCome settings w schedule c before middle)
    → Ends settings w (scheduled (run_setting settings) (first_underway (run_setting settings) w) come.entries) finished state middle after → Ran settings w schedule finished state before after
ends_ran settings w schedule c finished state before middle after come ends =
    let s : RunSetting = run_setting settings in
    let v : Underway = scheduled s (first_underway s w) come.entries in
    let same : end_of s w v ≡ world_run s w (turns_under s w come.entries) = run-of s w come.entries in
    record {
      turns = turns_under s w come.entries;
      by = come.by;
      scripts = ends.scripts ∙ ap (λ (r : WorldRun). map (finished_in settings.keep r) (session_numbers 1 w.sessions)) same;
      readable = ends.readable;
      taken = ends.turns ∙ ap (λ (r : WorldRun). r.turns) same;
      current = ends.current ∙ ap (λ (r : WorldRun). version_now s w r) same;
      shows =
          subst (λ (r : WorldRun). GrowsTo before after [] (AreAll w r)) same
          (grows_on before middle after [] (AreMade w v) (AreAll w (end_of s w v)) come.shows (ends.shows come.shows.more come.shows.holds));
    }
