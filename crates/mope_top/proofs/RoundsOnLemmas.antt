-- Rounds, one after the other.
use Rattle.std.proofs.Common.{◌≡◌, refl, sym, ◌∙◌, ap, subst, ℕ, zero, suc, Bool, true, false, List, [], ◌∷◌, ◌++◌, append_assoc}
use Rattle.std.proofs.lemmas.List.{append-nil}
use Rattle.mope_base.specs.Lists.{Each}
use Rattle.mope_base.specs.declared.numbers.SessionNo.{SessionNo}
use Rattle.mope_top.specs.Ran.{RoundsOn}
use Rattle.mope_top.specs.Replays.{rounds}
use Rattle.mope_top.proofs.Rounds.{Shown, StepsEach, Told, all_stay, grows_as, grows_nowhere, grows_on}
use Rattle.proxy.specs.declared.outcomes.Settings.{Settings}
use Rattle.run_laws.specs.ScheduleLaws.{HasNothingLeft}
use Rattle.run_laws.specs.Schedules.{Underway, scheduled, stepped}
use Rattle.run_laws.specs.Worlds.{RunSetting}
use Rattle.step_core.specs.Cores.{Cored, Follows, run_setting}
use Rattle.step_core.specs.Shown.{AreMade, GrowsTo}
use Rattle.workload.specs.declared.script.Workload.{Workload}
use Rattle.workload.specs.Validity.{IsValid}

pub scheduled-append : (s : RunSetting) (u : Underway) (earlier later : List SessionNo) → scheduled s u (earlier ++ later) ≡ scheduled s (scheduled s u earlier) later
unfolding scheduled
scheduled-append s u [] later = refl
scheduled-append s u (n ∷ earlier) later = scheduled-append s (stepped s u n) earlier later

-- a round more, at the end
rounds-more : (count : ℕ) (sessions : List SessionNo) → rounds (suc count) sessions ≡ rounds count sessions ++ sessions
unfolding rounds
rounds-more zero sessions = append-nil sessions
rounds-more (suc count) sessions = ap (λ (l : List SessionNo). sessions ++ l) (rounds-more count sessions) ∙ sym (append_assoc sessions (rounds count sessions) sessions)

round-more : (s : RunSetting) (u : Underway) (count : ℕ) (sessions : List SessionNo) → scheduled s (scheduled s u (rounds count sessions)) sessions ≡ scheduled s u (rounds (suc count) sessions)
round-more s u count sessions = sym (ap (λ (l : List SessionNo). scheduled s u l) (rounds-more count sessions) ∙ scheduled-append s u (rounds count sessions) sessions)

-- some rounds of these sessions have led from a run under way to one that the core follows, and the watch was shown them
pub record HasRounds (settings : Settings) (w : Workload) (u : Underway) (sessions : List SessionNo) (shown : Shown) (c : Cored) (before after : Told) : Type 0 where
  pub count : ℕ
  pub follows : Follows settings w (scheduled (run_setting settings) u (rounds count sessions)) c
  pub shows : GrowsTo before after shown (AreMade w (scheduled (run_setting settings) u (rounds count sessions)))

-- so of each run under way that a core followed
abbrev pub AllHaveRounds : Told → Told → Cored → Cored → List SessionNo → Type 0
AllHaveRounds before after c d sessions = (settings : Settings) (w : Workload) (u : Underway) (shown : Shown) → IsValid w → Follows settings w u c → AreMade w u shown → HasRounds settings w u sessions shown d before after

pub rounds_none : (before : Told) (c : Cored) (sessions : List SessionNo) → AllHaveRounds before before c c sessions
unfolding rounds scheduled
rounds_none before c sessions = λ settings w u shown valid follows made. record { count = 0; follows = follows; shows = grows_nowhere before shown (AreMade w u) made }

pub rounds_go_on : (before middle after : Told) (c d e : Cored) (sessions : List SessionNo) (went : Bool) → AllHaveRounds before middle c d sessions → StepsEach middle after d e sessions went
    → AllHaveRounds before after c e sessions
rounds_go_on before middle after c d e sessions went so_far steps = λ settings w u shown valid follows made.
    let has : HasRounds settings w u sessions shown d before middle = so_far settings w u shown valid follows made in
    let s : RunSetting = run_setting settings in
    let v : Underway = scheduled s u (rounds has.count sessions) in
    let second : GrowsTo middle after (shown ++ has.shows.more) (AreMade w (scheduled s v sessions)) = steps.shows settings w v (shown ++ has.shows.more) valid has.follows has.shows.holds in
    record {
      count = suc has.count;
      follows = subst (λ (x : Underway). Follows settings w x e) (round-more s u has.count sessions) (steps.follows settings w v valid has.follows);
      shows =
          grows_as w before after shown (scheduled s v sessions) (scheduled s u (rounds (suc has.count) sessions)) (round-more s u has.count sessions)
          (grows_on before middle after shown (AreMade w v) (AreMade w (scheduled s v sessions)) has.shows second);
    }

-- the last one, in which nothing went
pub rounds_end : (before middle after : Told) (c d e : Cored) (sessions : List SessionNo) (went : Bool) → AllHaveRounds before middle c d sessions → StepsEach middle after d e sessions went → went ≡ false
    → (settings : Settings) (w : Workload) (u : Underway) (shown : Shown) → IsValid w → Follows settings w u c → AreMade w u shown → RoundsOn settings w u sessions shown e before after
rounds_end before middle after c d e sessions went so_far steps none = λ settings w u shown valid follows made.
    let has : HasRounds settings w u sessions shown d before middle = so_far settings w u shown valid follows made in
    let s : RunSetting = run_setting settings in
    let v : Underway = scheduled s u (rounds has.count sessions) in
    let rest : Each (HasNothingLeft v) sessions = steps.rests settings w v valid has.follows none in
    let second : GrowsTo middle after (shown ++ has.shows.more) (AreMade w (scheduled s v sessions)) = steps.shows settings w v (shown ++ has.shows.more) valid has.follows has.shows.holds in
    record {
      count = has.count;
      follows = subst (Follows settings w v) (sym (steps.unchanged none)) has.follows;
      rest = rest;
      shows =
          grows_on before middle after shown (AreMade w v) (AreMade w v) has.shows
          (grows_as w middle after (shown ++ has.shows.more) (scheduled s v sessions) v (all_stay s v sessions rest) second);
    }
