-- Sessions come to their ends, one after the other.
use Rattle.std.proofs.Common.{◌≡◌, refl, sym, ◌∙◌, ap, subst, ℕ, zero, suc, ◌+◌, ◌<◌, ◌≤◌, Bool, true, false, List, [], ◌∷◌, ◌++◌, Some, map, length, drop, get_or, set, inl, inr, arith}
use Rattle.std.proofs.Math.Seq.{drop-cons}
use Rattle.std.proofs.lemmas.List.{append_assoc, map-append}
use Rattle.mope_base.specs.Lists.{Each}
use Rattle.mope_base.specs.declared.numbers.SessionNo.{SessionNo}
use Rattle.walk_proto.specs.declared.messages.Exchange.{Exchange}
use Rattle.workload.specs.Run.{session_numbers}
use Rattle.workload.specs.Validity.{IsValid}
use Rattle.workload.specs.declared.script.Piece.{Piece}
use Rattle.workload.specs.declared.script.Workload.{Workload}
use Rattle.proxy.specs.declared.outcomes.Settings.{Settings}
use Rattle.proxy.proofs.DriveLemmas.{work_in, work_less}
use Rattle.server_conn.specs.declared.receipt.Receipt.{Receipt}
use Rattle.run_laws.specs.ScheduleLaws.{HasNothingLeft}
use Rattle.run_laws.specs.Schedules.{Underway, stepped}
use Rattle.run_laws.specs.WorldRuns.{WorldRun, world_finished, world_finished_session}
use Rattle.run_laws.specs.Worlds.{RunSetting}
use Rattle.run_laws.proofs.ScheduleLemmas.{ended_is_finished, ended_stays, steps_finish}
use Rattle.step_core.specs.Cores.{Cored, Follows, Sitting, end_of, run_setting, seat_in}
use Rattle.step_core.specs.Endings.{EndsFirst, EndsSession, FirstFinished}
use Rattle.step_core.specs.Shown.{AreMade, GrowsTo, shown_as}
use Rattle.step_core.specs.Sittings.{HasFinished, HasHeard, HeardBy, StandsAt}
use Rattle.step_core.proofs.Ending.{has-finished, not-both}
use Rattle.step_core.proofs.Places.{at_place}
use Rattle.step_core.proofs.Stepped.{nothing-shown}

-- ---- how much a session has left to do at most

pub work_place : ℕ → List Sitting → ℕ
work_place i [] = 0
work_place zero (x ∷ sittings) = work_in x.party
work_place (suc i) (x ∷ sittings) = work_place i sittings

pub work_by : ℕ → List Sitting → ℕ
work_by zero sittings = 0
work_by (suc i) sittings = work_place i sittings

place-less : (sittings : List Sitting) (i : ℕ) (x y : Sitting) → StandsAt i x sittings → work_in y.party < work_in x.party → work_place i (set sittings i y) < work_place i sittings
unfolding StandsAt work_place
place-less [] i x y stands less = absurd stands
place-less (z ∷ sittings) zero x y stands less = subst (λ (s : Sitting). work_in y.party < work_in s.party) (sym stands) less
place-less (z ∷ sittings) (suc i) x y stands less = place-less sittings i x y stands less

pub heard-less : (n : SessionNo) (before after : List Sitting) → HeardBy n before after → work_by n.0 after < work_by n.0 before
unfolding HeardBy work_by
heard-less n before after by =
    let i : ℕ = by.0 in
    let heard : HasHeard i before after = by.2 in
    let less : work_in heard.new.party < work_in heard.old.party = work_less heard.old.party heard.new.party heard.request heard.reply heard.asked heard.heard in
    subst (λ (k : ℕ). work_by k after < work_by k before) (sym by.1)
    (subst (λ (l : List Sitting). work_place i l < work_place i before) (sym heard.stands) (place-less before i heard.old heard.new heard.stood less))

-- ---- those that have finished

set-first : (k : ℕ) (sittings : List Sitting) (i : ℕ) (x y : Sitting) → StandsAt i x sittings → (HasFinished x → ⊥) → FirstFinished k sittings → FirstFinished k (set sittings i y)
unfolding StandsAt FirstFinished
set-first zero sittings i x y stands goes first = tt
set-first (suc k) [] i x y stands goes first = absurd stands
set-first (suc k) (z ∷ sittings) zero x y stands goes first = absurd (goes (subst HasFinished stands first.0))
set-first (suc k) (z ∷ sittings) (suc i) x y stands goes first = (first.0, set-first k sittings i x y stands goes first.1)

pub heard-first : (n : SessionNo) (before after : List Sitting) → HeardBy n before after → (k : ℕ) → FirstFinished k before → FirstFinished k after
unfolding HeardBy
heard-first n before after by k first =
    let heard : HasHeard by.0 before after = by.2 in
    subst (FirstFinished k) (sym heard.stands)
    (set-first k before by.0 heard.old heard.new heard.stood (λ (over : HasFinished heard.old). not-both heard.old.party.phase heard.request over heard.asked) first)

pub first-more : (k : ℕ) (sittings : List Sitting) → FirstFinished k sittings → ((x : Sitting) → StandsAt k x sittings → HasFinished x) → FirstFinished (suc k) sittings
unfolding StandsAt FirstFinished
first-more k [] first next = tt
first-more zero (x ∷ sittings) first next = (next x refl, tt)
first-more (suc k) (x ∷ sittings) first next = (first.0, first-more k sittings first.1 next)

pub first-all : (k : ℕ) (sittings : List Sitting) → FirstFinished k sittings → length sittings ≤ k → Each HasFinished sittings
unfolding FirstFinished Each
first-all k [] first many = tt
first-all zero (x ∷ sittings) first many = absurd (omega (arith, many))
first-all (suc k) (x ∷ sittings) first many = let less : length sittings ≤ k = omega (arith, many) in (first.0, first-all k sittings first.1 less)

-- ---- what a watch is shown, one after the other

pub grows-on : (told middle then : List (SessionNo × Receipt) → Type 0) (w : Workload) (u v x : Underway)
    → ((shown : List (SessionNo × Exchange)) → AreMade w u shown → GrowsTo told middle shown (AreMade w v))
    → ((shown : List (SessionNo × Exchange)) → AreMade w v shown → GrowsTo middle then shown (AreMade w x))
    → (shown : List (SessionNo × Exchange)) → AreMade w u shown → GrowsTo told then shown (AreMade w x)
grows-on told middle then w u v x first second shown made =
    let one : GrowsTo told middle shown (AreMade w v) = first shown made in
    let two : GrowsTo middle then (shown ++ one.more) (AreMade w x) = second (shown ++ one.more) one.holds in
    record {
      more = one.more ++ two.more;
      holds = subst (λ (l : List (SessionNo × Exchange)). AreMade w x l) (append_assoc shown one.more two.more) two.holds;
      tells = λ earlier tells.
          subst then (append_assoc earlier (map shown_as one.more) (map shown_as two.more) ∙ ap (λ (l : List (SessionNo × Receipt)). earlier ++ l) (sym (map-append shown_as one.more two.more)))
          (two.tells (earlier ++ map shown_as one.more) (one.tells earlier tells));
    }

-- ---- one session

-- a run under way is followed from which a session finishes as before
pub record Nears (settings : Settings) (w : Workload) (u : Underway) (n : SessionNo) (c : Cored) (told then : List (SessionNo × Receipt) → Type 0) : Type 0 where
  pub underway : Underway
  pub follows : Follows settings w underway c
  pub finishes : world_finished_session (run_setting settings) underway.run n ≡ world_finished_session (run_setting settings) u.run n
  pub shows : (shown : List (SessionNo × Exchange)) → AreMade w u shown → GrowsTo told then shown (AreMade w underway)

pub nears-first : (settings : Settings) (w : Workload) (u : Underway) (n : SessionNo) (c : Cored) (told : List (SessionNo × Receipt) → Type 0) → Follows settings w u c → Nears settings w u n c told told
nears-first settings w u n c told follows = record {
  underway = u;
  follows = follows;
  finishes = refl;
  shows = λ shown made. nothing-shown told told w u u shown refl made (λ earlier tells. tells);
}

pub nears-on : (settings : Settings) (w : Workload) (u : Underway) (n : SessionNo) (c d : Cored) (told middle then : List (SessionNo × Receipt) → Type 0) → (near : Nears settings w u n c told middle)
    → Follows settings w (stepped (run_setting settings) near.underway n) d
    → ((shown : List (SessionNo × Exchange)) → AreMade w near.underway shown → GrowsTo middle then shown (AreMade w (stepped (run_setting settings) near.underway n)))
    → Nears settings w u n d told then
nears-on settings w u n c d told middle then near follows shows = record {
  underway = stepped (run_setting settings) near.underway n;
  follows = follows;
  finishes = steps_finish (run_setting settings) near.underway n ∙ near.finishes;
  shows = grows-on told middle then w u near.underway (stepped (run_setting settings) near.underway n) near.shows shows;
}

-- where nothing is left of it, it has finished
pub nears-end : (settings : Settings) (w : Workload) (u : Underway) (n : SessionNo) (c d : Cored) (told middle then : List (SessionNo × Receipt) → Type 0) → (near : Nears settings w u n c told middle) → HasNothingLeft near.underway n
    → Follows settings w (stepped (run_setting settings) near.underway n) d
    → ((shown : List (SessionNo × Exchange)) → AreMade w near.underway shown → GrowsTo middle then shown (AreMade w (stepped (run_setting settings) near.underway n)))
    → EndsSession settings w u n d told then
nears-end settings w u n c d told middle then near left follows shows =
    let still : HasNothingLeft (stepped (run_setting settings) near.underway n) n = subst (λ (v : Underway). HasNothingLeft v n) (sym (ended_stays (run_setting settings) near.underway n left)) left in
    record {
      underway = stepped (run_setting settings) near.underway n;
      follows = follows;
      left = still;
      run = sym (ended_is_finished (run_setting settings) (stepped (run_setting settings) near.underway n) n still) ∙ steps_finish (run_setting settings) near.underway n ∙ near.finishes;
      shows = grows-on told middle then w u near.underway (stepped (run_setting settings) near.underway n) near.shows shows;
    }

-- ---- all sessions

pub ends-first : (settings : Settings) (w : Workload) (u : Underway) (c : Cored) (told : List (SessionNo × Receipt) → Type 0) → Follows settings w u c → EndsFirst settings w u 0 c told told
unfolding FirstFinished end_of
ends-first settings w u c told follows = record {
  underway = u;
  follows = follows;
  over = tt;
  rest = refl;
  shows = λ shown made. nothing-shown told told w u u shown refl made (λ earlier tells. tells);
}

numbers-on : (scripts : List (List Piece)) (k : ℕ) (s : RunSetting) (r : WorldRun) → k < length scripts
    → world_finished s r (session_numbers (suc k) (drop k scripts)) ≡ world_finished s (world_finished_session s r (at_place k)) (session_numbers (suc (suc k)) (drop (suc k) scripts))
unfolding session_numbers world_finished
numbers-on scripts k s r less = ap (λ (l : List (List Piece)). world_finished s r (session_numbers (suc k) l)) (drop-cons scripts k [] less)

pub ends-more : (settings : Settings) (w : Workload) (u : Underway) (k : ℕ) (c d : Cored) (told middle then : List (SessionNo × Receipt) → Type 0) → IsValid w → k < length w.sessions → (first : EndsFirst settings w u k c told middle)
    → EndsSession settings w first.underway (at_place k) d middle then → ((j : ℕ) → FirstFinished j c.sittings → FirstFinished j d.sittings) → EndsFirst settings w u (suc k) d told then
ends-more settings w u k c d told middle then valid less first ended stay = record {
  underway = ended.underway;
  follows = ended.follows;
  over = first-more k d.sittings (stay k first.over) (λ (x : Sitting) (stands : StandsAt k x d.sittings). has-finished settings w ended.underway d k x valid ended.follows stands ended.left);
  rest =
      ap (λ (r : WorldRun). world_finished (run_setting settings) r (session_numbers (suc (suc k)) (drop (suc k) w.sessions))) ended.run
      ∙ sym (numbers-on w.sessions k (run_setting settings) first.underway.run less)
      ∙ first.rest;
  shows = grows-on told middle then w u first.underway ended.underway first.shows ended.shows;
}
