-- A round: sessions make an exchange each, one after the other.
use Rattle.std.proofs.Common.{◌≡◌, refl, sym, ◌∙◌, ap, subst, ℕ, zero, suc, ◌+◌, ◌<◌, ◌≤◌, ◌↔◌, Bool, true, false, List, [], ◌∷◌, ◌++◌, set, map, get_or, take, length, append_assoc, arith}
use Rattle.std.proofs.lemmas.List.{append-nil, map-append, take_all, take_more}
use Rattle.mope_base.specs.Lists.{Each}
use Rattle.mope_base.specs.declared.numbers.SessionNo.{SessionNo}
use Rattle.mope_top.specs.Ran.{Hears, Leads}
use Rattle.plain_db.proofs.EachLemmas.{each-append}
use Rattle.proxy.specs.declared.outcomes.Settings.{Settings}
use Rattle.run_laws.specs.ScheduleLaws.{HasNothingLeft}
use Rattle.run_laws.specs.Schedules.{Underway, scheduled, stepped}
use Rattle.run_laws.specs.Worlds.{RunSetting}
use Rattle.run_laws.proofs.NoSession.{entries_go_on}
use Rattle.run_laws.proofs.ScheduleLemmas.{ended_stays}
use Rattle.server_conn.specs.declared.receipt.Receipt.{Receipt}
use Rattle.step_core.specs.Cores.{Cored, Follows, Sitting, run_setting}
use Rattle.step_core.specs.Shown.{AreMade, GrowsTo, shown_as}
use Rattle.step_core.specs.Sittings.{HeardBy}
use Rattle.walk_proto.specs.declared.messages.Exchange.{Exchange}
use Rattle.workload.specs.declared.script.Workload.{Workload}
use Rattle.workload.specs.Validity.{IsValid}

abbrev pub Told : Type 1
Told = List (SessionNo × Receipt) → Type 0

abbrev pub Shown : Type 0
Shown = List (SessionNo × Exchange)

-- ---- a watch's list grows

pub grows_nowhere : (before : Told) (shown : Shown) (P : Shown → Type 0) → P shown → GrowsTo before before shown P
unfolding shown_as
grows_nowhere before shown P holds = record {
  more = [];
  holds = subst P (sym (append-nil shown)) holds;
  tells = λ earlier was. subst before (sym (append-nil earlier)) was;
}

-- and on
pub grows_on : (before middle after : Told) (shown : Shown) (P Q : Shown → Type 0) (first : GrowsTo before middle shown P) → GrowsTo middle after (shown ++ first.more) Q → GrowsTo before after shown Q
grows_on before middle after shown P Q first second = record {
  more = first.more ++ second.more;
  holds = subst Q (append_assoc shown first.more second.more) second.holds;
  tells = λ earlier was.
      subst after
      (append_assoc earlier (map shown_as first.more) (map shown_as second.more) ∙ ap (λ l. earlier ++ l) (sym (map-append shown_as first.more second.more)))
      (second.tells (earlier ++ map shown_as first.more) (first.tells earlier was));
}

-- to the same by another name
pub grows_as : (w : Workload) (before after : Told) (shown : Shown) (u v : Underway) → u ≡ v → GrowsTo before after shown (AreMade w u) → GrowsTo before after shown (AreMade w v)
grows_as w before after shown u v same grows = subst (λ (x : Underway). GrowsTo before after shown (AreMade w x)) same grows

-- ---- sessions that have nothing left

pub all_stay : (s : RunSetting) (u : Underway) (sessions : List SessionNo) → Each (HasNothingLeft u) sessions → scheduled s u sessions ≡ u
unfolding scheduled Each
all_stay s u [] rest = refl
all_stay s u (n ∷ sessions) rest = ap (λ (v : Underway). scheduled s v sessions) (ended_stays s u n rest.0) ∙ all_stay s u sessions rest.1

-- ---- chains of exchanges

-- only the sessions count
hears_from : (n : SessionNo) (c d e : Cored) → d.sittings ≡ c.sittings → Hears n d e → Hears n c e
hears_from n c d e same hears = subst (λ (l : List Sitting). HeardBy n l e.sittings) same hears

pub leads_more : (count : ℕ) (n : SessionNo) (c d e : Cored) → Leads count c d → Hears n d e → Leads (suc count) c e
unfolding Leads
leads_more zero n c d e leads hears = (n, (e, hears_from n c d e leads hears, refl))
leads_more (suc count) n c d e leads hears = (leads.0, (leads.1.0, leads.1.1, leads_more count n leads.1.0 d e leads.1.2 hears))

-- one exchange or more lead from one core to another
abbrev pub LeadsOn : Cored → Cored → Type 0
LeadsOn c d = (count : ℕ) × (0 < count) × Leads count c d

-- ---- one exchange of one session

-- what a step of a core gives, by whether it went
pub record Steps (before after : Told) (c d : Cored) (n : SessionNo) (went : Bool) : Type 0 where
  pub follows : (settings : Settings) (w : Workload) (u : Underway) → IsValid w → Follows settings w u c → Follows settings w (stepped (run_setting settings) u n) d
  pub shows : (settings : Settings) (w : Workload) (u : Underway) (shown : Shown) → IsValid w → Follows settings w u c → AreMade w u shown → GrowsTo before after shown (AreMade w (stepped (run_setting settings) u n))
  pub ended : (settings : Settings) (w : Workload) (u : Underway) → IsValid w → Follows settings w u c → went ≡ false ↔ HasNothingLeft u n
  pub hears : went ≡ true → Hears n c d
  pub unchanged : went ≡ false → d ≡ c

-- what these sessions have given, one after the other, by whether one of them went
pub record StepsEach (before after : Told) (c d : Cored) (sessions : List SessionNo) (went : Bool) : Type 0 where
  pub follows : (settings : Settings) (w : Workload) (u : Underway) → IsValid w → Follows settings w u c → Follows settings w (scheduled (run_setting settings) u sessions) d
  pub shows : (settings : Settings) (w : Workload) (u : Underway) (shown : Shown) → IsValid w → Follows settings w u c → AreMade w u shown → GrowsTo before after shown (AreMade w (scheduled (run_setting settings) u sessions))
  pub rests : (settings : Settings) (w : Workload) (u : Underway) → IsValid w → Follows settings w u c → went ≡ false → Each (HasNothingLeft u) sessions
  pub unchanged : went ≡ false → d ≡ c
  pub leads : went ≡ true → LeadsOn c d

pub each_first : (before : Told) (c : Cored) → StepsEach before before c c [] false
unfolding scheduled Each
each_first before c = record {
  follows = λ settings w u valid follows. follows;
  shows = λ settings w u shown valid follows made. grows_nowhere before shown (AreMade w u) made;
  rests = λ settings w u valid follows none. tt;
  unchanged = λ none. refl;
  leads = λ went. cc;
}

follows_more : (before middle after : Told) (c d e : Cored) (sessions : List SessionNo) (was : Bool) (n : SessionNo) (went : Bool) → StepsEach before middle c d sessions was → Steps middle after d e n went
    → (settings : Settings) (w : Workload) (u : Underway) → IsValid w → Follows settings w u c → Follows settings w (scheduled (run_setting settings) u (sessions ++ n ∷ [])) e
follows_more before middle after c d e sessions was n went so_far step settings w u valid follows =
    subst (λ (v : Underway). Follows settings w v e) (sym (entries_go_on (run_setting settings) u sessions n))
    (step.follows settings w (scheduled (run_setting settings) u sessions) valid (so_far.follows settings w u valid follows))

shows_more : (before middle after : Told) (c d e : Cored) (sessions : List SessionNo) (was : Bool) (n : SessionNo) (went : Bool) → StepsEach before middle c d sessions was → Steps middle after d e n went
    → (settings : Settings) (w : Workload) (u : Underway) (shown : Shown) → IsValid w → Follows settings w u c → AreMade w u shown
    → GrowsTo before after shown (AreMade w (scheduled (run_setting settings) u (sessions ++ n ∷ [])))
shows_more before middle after c d e sessions was n went so_far step settings w u shown valid follows made =
    let v : Underway = scheduled (run_setting settings) u sessions in
    let first : GrowsTo before middle shown (AreMade w v) = so_far.shows settings w u shown valid follows made in
    let second : GrowsTo middle after (shown ++ first.more) (AreMade w (stepped (run_setting settings) v n)) =
    step.shows settings w v (shown ++ first.more) valid (so_far.follows settings w u valid follows) first.holds in
    grows_as w before after shown (stepped (run_setting settings) v n) (scheduled (run_setting settings) u (sessions ++ n ∷ [])) (sym (entries_go_on (run_setting settings) u sessions n))
    (grows_on before middle after shown (AreMade w v) (AreMade w (stepped (run_setting settings) v n)) first second)

-- a session that went
pub each_went : (before middle after : Told) (c d e : Cored) (sessions : List SessionNo) (was : Bool) (n : SessionNo) → StepsEach before middle c d sessions was → Steps middle after d e n true
    → StepsEach before after c e (sessions ++ n ∷ []) true
each_went before middle after c d e sessions was n so_far step = record {
  follows = follows_more before middle after c d e sessions was n true so_far step;
  shows = shows_more before middle after c d e sessions was n true so_far step;
  rests = λ settings w u valid follows none. cc;
  unchanged = λ none. cc;
  leads = λ went. led was so_far;
}
  where
    led : (was : Bool) → StepsEach before middle c d sessions was → LeadsOn c e
    led true so_far =
        let on : LeadsOn c d = so_far.leads refl in
        (suc on.0, omega arith, leads_more on.0 n c d e on.2 (step.hears refl))
    led false so_far =
        (1, omega arith, leads_more 0 n c d e (unfold Leads in ap (λ (x : Cored). x.sittings) (so_far.unchanged refl)) (step.hears refl))

-- a session that had nothing left
pub each_stayed : (before middle after : Told) (c d e : Cored) (sessions : List SessionNo) (was : Bool) (n : SessionNo) → StepsEach before middle c d sessions was → Steps middle after d e n false
    → StepsEach before after c e (sessions ++ n ∷ []) was
unfolding Each
each_stayed before middle after c d e sessions was n so_far step = record {
  follows = follows_more before middle after c d e sessions was n false so_far step;
  shows = shows_more before middle after c d e sessions was n false so_far step;
  rests = λ settings w u valid follows none.
      let rest : Each (HasNothingLeft u) sessions = so_far.rests settings w u valid follows none in
      let last : HasNothingLeft (scheduled (run_setting settings) u sessions) n =
      (step.ended settings w (scheduled (run_setting settings) u sessions) valid (so_far.follows settings w u valid follows)).0 refl in
      each-append (HasNothingLeft u) sessions (n ∷ []) rest (subst (λ (v : Underway). HasNothingLeft v n) (all_stay (run_setting settings) u sessions rest) last, tt);
  unchanged = λ none. step.unchanged refl ∙ so_far.unchanged none;
  leads = λ went. subst (LeadsOn c) (sym (step.unchanged refl)) (so_far.leads went);
}

-- the same in a walk over a list of sessions
pub walk_went : (before middle after : Told) (c d e : Cored) (sessions : List SessionNo) (i : ℕ) (was went now : Bool) → i < length sessions
    → StepsEach before middle c d (take i sessions) was → Steps middle after d e (get_or sessions i (record { 0 = 0 })) went → went ≡ true → now ≡ true
    → StepsEach before after c e (take (i + 1) sessions) now
walk_went before middle after c d e sessions i was went now within so_far step goes is =
    let n : SessionNo = get_or sessions i (record { 0 = 0 }) in
    let more : StepsEach before after c e (take i sessions ++ n ∷ []) true =
    each_went before middle after c d e (take i sessions) was n so_far (subst (Steps middle after d e n) goes step) in
    subst (λ (l : List SessionNo). StepsEach before after c e l now) (sym (take_more sessions i (record { 0 = 0 }) within)) (subst (StepsEach before after c e (take i sessions ++ n ∷ [])) (sym is) more)

pub walk_stayed : (before middle after : Told) (c d e : Cored) (sessions : List SessionNo) (i : ℕ) (was went now : Bool) → i < length sessions
    → StepsEach before middle c d (take i sessions) was → Steps middle after d e (get_or sessions i (record { 0 = 0 })) went → went ≡ false → now ≡ was
    → StepsEach before after c e (take (i + 1) sessions) now
walk_stayed before middle after c d e sessions i was went now within so_far step stays is =
    let n : SessionNo = get_or sessions i (record { 0 = 0 }) in
    let more : StepsEach before after c e (take i sessions ++ n ∷ []) was =
    each_stayed before middle after c d e (take i sessions) was n so_far (subst (Steps middle after d e n) stays step) in
    subst (λ (l : List SessionNo). StepsEach before after c e l now) (sym (take_more sessions i (record { 0 = 0 }) within)) (subst (StepsEach before after c e (take i sessions ++ n ∷ [])) (sym is) more)

pub walk_over : (before after : Told) (c d : Cored) (sessions : List SessionNo) (i : ℕ) (went : Bool) → length sessions ≤ i → StepsEach before after c d (take i sessions) went → StepsEach before after c d sessions went
walk_over before after c d sessions i went past so_far = subst (λ (l : List SessionNo). StepsEach before after c d l went) (take_all i sessions past) so_far
