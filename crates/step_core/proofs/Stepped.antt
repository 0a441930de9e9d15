-- One exchange of the session at a place takes what a core follows a step on.
use Rattle.std.proofs.Common.{◌≡◌, refl, sym, ◌∙◌, ap, subst, ℕ, suc, ◌<◌, ◌↔◌, Bool, true, false, List, [], ◌∷◌, ◌++◌, Some, Result, Ok, Err, OnOk, IfOk, map, length, get_or, set, ◌⊎◌, inl, inr}
use Rattle.std.proofs.lemmas.List.{map-set, set-get_or, append-nil}
use Rattle.mope_base.specs.declared.errors.OutOfMemory.{OutOfMemory}
use Rattle.mope_base.specs.declared.numbers.SessionNo.{SessionNo}
use Rattle.walk_proto.specs.declared.messages.Exchange.{Exchange}
use Rattle.walk_proto.specs.declared.messages.Request.{Request}
use Rattle.workload.specs.declared.script.Workload.{Workload}
use Rattle.workload.specs.Validity.{IsValid}
use Rattle.proxy.specs.declared.outcomes.Settings.{Settings}
use Rattle.proxy.specs.Party.{Phase, fresh, waits, finished, stuck, spent}
use Rattle.server_conn.specs.Handling.{receipt_for}
use Rattle.server_conn.specs.declared.receipt.Receipt.{Receipt}
use Rattle.txn_core.specs.Courses.{Course}
use Rattle.run_laws.specs.Schedules.{Underway, stepped}
use Rattle.run_laws.specs.ScheduleLaws.{HasNothingLeft}
use Rattle.run_laws.proofs.ScheduleLemmas.{ended_stays}
use Rattle.step_core.specs.Cores.{Cored, Follows, Sitting, run_setting}
use Rattle.step_core.specs.Inside.{AreNumbered, IsSaid, IsCore, IsFollowing, cored, sitting_of}
use Rattle.step_core.specs.Outcomes.{Outcome, outcome}
use Rattle.step_core.specs.Shown.{AreMade, GrowsTo, shown_as}
use Rattle.step_core.specs.Sittings.{HasHeard, IsOpen, IsOpenBy, StandsAt, Went}
use Rattle.step_core.specs.declared.seat.Seat.{Seat}
use Rattle.step_core.proofs.Places.{at_place, seat-stands, numbered-at, numbered-set, Numbered}
use Rattle.step_core.proofs.Ending.{nothing-left, has-finished, not-both}
use Rattle.step_core.proofs.Opened.{open-of}
use Rattle.step_core.proofs.FollowsOn.{follows-on}
use Rattle.step_core.proofs.MadeOn.{made-on}

-- ---- before the exchange

pub record Before (place : ℕ) (state : Course) (seats : List Seat) (old : Seat) : Type 0 where
  pub numbered : AreNumbered 1 seats
  pub following : IsFollowing (cored state seats false)
  pub there : place < length seats
  pub is : get_or seats place old ≡ old

pub before-of : (place : ℕ) (state : Course) (seats : List Seat) (old : Seat) → IsCore state seats false → place < length seats → old ≡ get_or seats place old → Before place state seats old
unfolding IsCore
before-of place state seats old core there is = record { numbered = core.0; following = core.1; there = there; is = sym is }

stands-at : (place : ℕ) (state : Course) (seats : List Seat) (old : Seat) → Before place state seats old → StandsAt place (sitting_of old) (cored state seats false).sittings
unfolding cored
stands-at place state seats old b = seat-stands seats place old b.is b.there

session-is : (place : ℕ) (state : Course) (seats : List Seat) (old : Seat) → Before place state seats old → old.session ≡ at_place place
session-is place state seats old b = let there : Numbered (suc place) old = numbered-at seats place old b.numbered b.is b.there in ap (λ (k : ℕ). let n : SessionNo = record { 0 = k } in n) there.session

pub said-at : (place : ℕ) (state : Course) (seats : List Seat) (old : Seat) → Before place state seats old → IsSaid old
said-at place state seats old b = (numbered-at seats place old b.numbered b.is b.there).said

open-there : (place : ℕ) (state : Course) (seats : List Seat) (old : Seat) → Before place state seats old → IsOpen (at_place place) state (sitting_of old)
unfolding cored
open-there place state seats old b =
    let f : IsFollowing (cored state seats false) = b.following in
    open-of f.settings f.workload f.underway (cored state seats false) place (sitting_of old) f.valid f.follows (stands-at place state seats old b)

pub open-at : (place : ℕ) (state : Course) (seats : List Seat) (old : Seat) → Before place state seats old → IsOpen old.session state (sitting_of old)
open-at place state seats old b = subst (λ (n : SessionNo). IsOpen n state (sitting_of old)) (sym (session-is place state seats old b)) (open-there place state seats old b)

-- it wants to send a request, of which something comes; or it has finished
pub record Going (n : SessionNo) (c : Course) (x : Sitting) : Type 0 where
  pub request : Request
  pub came : Outcome
  pub waiting : x.party.phase ≡ waits request
  pub comes : outcome n c.current request x.conn.conn ≡ Some came

cases-by : (p : Phase) (n : SessionNo) (c : Course) (x : Sitting) → x.party.phase ≡ p → IsOpenBy p n c x → Going n c x ⊎ (x.party.phase ≡ finished)
unfolding IsOpenBy
cases-by fresh n c x is opens = absurd opens
cases-by (waits r) n c x is opens = inl (record { request = r; came = opens.0; waiting = is; comes = opens.1.comes })
cases-by finished n c x is opens = inr is
cases-by (stuck want got) n c x is opens = absurd opens
cases-by spent n c x is opens = absurd opens

cases-at : (place : ℕ) (state : Course) (seats : List Seat) (old : Seat) → Before place state seats old → Going (at_place place) state (sitting_of old) ⊎ ((sitting_of old).party.phase ≡ finished)
cases-at place state seats old b = cases-by (sitting_of old).party.phase (at_place place) state (sitting_of old) refl (open-there place state seats old b).0

-- ---- what the exchange ensures

pub record Does (result : Result Bool OutOfMemory) (state after : Course) (old new : Seat) : Type 0 where
  pub session : OnOk result (new.session ≡ old.session)
  pub said : OnOk result (IsSaid new)
  pub sent : (r : Request) → old.proxy.phase ≡ waits r → IfOk result (λ went. went ≡ true)
  pub went : (r : Request) (came : Outcome) → old.proxy.phase ≡ waits r → outcome old.session state.current r old.conn.conn ≡ Some came → OnOk result (Went state after (sitting_of old) (sitting_of new) came)
  pub ended : old.proxy.phase ≡ finished → IfOk result (λ went. went ≡ false)
  pub unchanged : old.proxy.phase ≡ finished → (new ≡ old) × (after ≡ state)

went-at : (place : ℕ) (state after : Course) (seats : List Seat) (old new : Seat) (went : Bool) → Before place state seats old → Does (Ok went) state after old new → (g : Going (at_place place) state (sitting_of old)) → Went state after (sitting_of old) (sitting_of new) g.came
unfolding sitting_of
went-at place state after seats old new went b does g =
    does.went g.request g.came g.waiting (ap (λ (n : SessionNo). outcome n state.current g.request old.conn.conn) (session-is place state seats old b) ∙ g.comes)

same-core : (place : ℕ) (state after : Course) (seats : List Seat) (old new : Seat) → Before place state seats old → (new ≡ old) × (after ≡ state) → cored after (set seats place new) false ≡ cored state seats false
same-core place state after seats old new b both =
    ap (λ (c : Course). cored c (set seats place new) false) both.1
    ∙ ap (λ (l : List Seat). cored state l false) (ap (λ (x : Seat). set seats place x) (both.0 ∙ sym b.is) ∙ set-get_or seats place old)

-- ---- what it follows then

going-follows : (place : ℕ) (state after : Course) (seats : List Seat) (old new : Seat) (went : Bool) → Before place state seats old → Does (Ok went) state after old new → Going (at_place place) state (sitting_of old)
    → (settings : Settings) (w : Workload) (u : Underway) → IsValid w → Follows settings w u (cored state seats false) → Follows settings w (stepped (run_setting settings) u (at_place place)) (cored after (set seats place new) false)
unfolding cored
going-follows place state after seats old new went b does g settings w u valid follows =
    follows-on settings w u (cored state seats false) (cored after (set seats place new) false) place (sitting_of old) (sitting_of new) g.request g.came valid follows (stands-at place state seats old b) g.waiting g.comes
    (went-at place state after seats old new went b does g) (map-set sitting_of seats place new)

stays : (place : ℕ) (state : Course) (seats : List Seat) (old : Seat) → Before place state seats old → (sitting_of old).party.phase ≡ finished
    → (settings : Settings) (w : Workload) (u : Underway) → IsValid w → Follows settings w u (cored state seats false) → stepped (run_setting settings) u (at_place place) ≡ u
stays place state seats old b over settings w u valid follows =
    ended_stays (run_setting settings) u (at_place place) (nothing-left settings w u (cored state seats false) place (sitting_of old) valid follows (stands-at place state seats old b) over)

over-follows : (place : ℕ) (state after : Course) (seats : List Seat) (old new : Seat) (went : Bool) → Before place state seats old → Does (Ok went) state after old new → (sitting_of old).party.phase ≡ finished
    → (settings : Settings) (w : Workload) (u : Underway) → IsValid w → Follows settings w u (cored state seats false) → Follows settings w (stepped (run_setting settings) u (at_place place)) (cored after (set seats place new) false)
unfolding sitting_of
over-follows place state after seats old new went b does over settings w u valid follows =
    subst (λ (v : Underway). Follows settings w v (cored after (set seats place new) false)) (sym (stays place state seats old b over settings w u valid follows))
    (subst (λ (c : Cored). Follows settings w u c) (sym (same-core place state after seats old new b (does.unchanged over))) follows)

follows-ok : (place : ℕ) (state after : Course) (seats : List Seat) (old new : Seat) (went : Bool) → Before place state seats old → Does (Ok went) state after old new
    → (settings : Settings) (w : Workload) (u : Underway) → IsValid w → Follows settings w u (cored state seats false) → Follows settings w (stepped (run_setting settings) u (at_place place)) (cored after (set seats place new) false)
follows-ok place state after seats old new went b does settings w u valid follows =
    elim (cases-at place state seats old b) as (λ _. Follows settings w (stepped (run_setting settings) u (at_place place)) (cored after (set seats place new) false)) [
      | inl g ↦ going-follows place state after seats old new went b does g settings w u valid follows
      | inr over ↦ over-follows place state after seats old new went b does over settings w u valid follows
    ]

pub follows-next : (place : ℕ) (state after : Course) (seats : List Seat) (old new : Seat) (result : Result Bool OutOfMemory) → Before place state seats old → Does result state after old new
    → (settings : Settings) (w : Workload) (u : Underway) → IsValid w → Follows settings w u (cored state seats false) → OnOk result (Follows settings w (stepped (run_setting settings) u (at_place place)) (cored after (set seats place new) false))
follows-next place state after seats old new (Ok went) b does settings w u valid follows = follows-ok place state after seats old new went b does settings w u valid follows
follows-next place state after seats old new (Err e) b does settings w u valid follows = tt

pub core-next : (place : ℕ) (state after : Course) (seats : List Seat) (old new : Seat) (result : Result Bool OutOfMemory) → Before place state seats old → Does result state after old new → OnOk result (IsCore after (set seats place new) false)
unfolding IsCore
core-next place state after seats old new (Ok went) b does =
    let f : IsFollowing (cored state seats false) = b.following in (
      numbered-set 1 seats place old new b.numbered b.is does.session does.said,
      record {
        settings = f.settings;
        workload = f.workload;
        underway = stepped (run_setting f.settings) f.underway (at_place place);
        valid = f.valid;
        follows = follows-ok place state after seats old new went b does f.settings f.workload f.underway f.valid f.follows;
      },
    )
core-next place state after seats old new (Err e) b does = tt

-- ---- whether it went

IsYes : Bool → Type 0
IsYes true = Unit {0}
IsYes false = ⊥

pub yes-no : (b : Bool) → b ≡ true → b ≡ false → ⊥
unfolding IsYes
yes-no b went ended = subst IsYes (sym went ∙ ended) tt

pub ended-next : (place : ℕ) (state after : Course) (seats : List Seat) (old new : Seat) (result : Result Bool OutOfMemory) → Before place state seats old → Does result state after old new
    → (settings : Settings) (w : Workload) (u : Underway) → IsValid w → Follows settings w u (cored state seats false) → IfOk result (λ went. went ≡ false ↔ HasNothingLeft u (at_place place))
unfolding sitting_of
ended-next place state after seats old new (Ok went) b does settings w u valid follows =
    elim (cases-at place state seats old b) as (λ _. went ≡ false ↔ HasNothingLeft u (at_place place)) [
      | inl g ↦ (
        (λ (ended : went ≡ false). absurd (yes-no went (does.sent g.request g.waiting) ended)),
        (λ (left : HasNothingLeft u (at_place place)). absurd (not-both (sitting_of old).party.phase g.request (has-finished settings w u (cored state seats false) place (sitting_of old) valid follows (stands-at place state seats old b) left) g.waiting)),
      )
      | inr over ↦ (
        (λ (ended : went ≡ false). nothing-left settings w u (cored state seats false) place (sitting_of old) valid follows (stands-at place state seats old b) over),
        (λ (left : HasNothingLeft u (at_place place)). does.ended over),
      )
    ]
ended-next place state after seats old new (Err e) b does settings w u valid follows = tt

pub unchanged-next : (place : ℕ) (state after : Course) (seats : List Seat) (old new : Seat) (result : Result Bool OutOfMemory) → Before place state seats old → Does result state after old new
    → IfOk result (λ went. went ≡ false → cored after (set seats place new) false ≡ cored state seats false)
unfolding sitting_of
unchanged-next place state after seats old new (Ok went) b does = λ (ended : went ≡ false).
    elim (cases-at place state seats old b) as (λ _. cored after (set seats place new) false ≡ cored state seats false) [
      | inl g ↦ absurd (yes-no went (does.sent g.request g.waiting) ended)
      | inr over ↦ same-core place state after seats old new b (does.unchanged over)
    ]
unchanged-next place state after seats old new (Err e) b does = tt

pub hears-next : (place : ℕ) (state after : Course) (seats : List Seat) (old new : Seat) (result : Result Bool OutOfMemory) → Before place state seats old → Does result state after old new
    → IfOk result (λ went. went ≡ true → HasHeard place (map sitting_of seats) (map sitting_of (set seats place new)))
unfolding sitting_of
hears-next place state after seats old new (Ok went) b does = λ (sent : went ≡ true).
    elim (cases-at place state seats old b) as (λ _. HasHeard place (map sitting_of seats) (map sitting_of (set seats place new))) [
      | inl g ↦ record {
        old = sitting_of old;
        new = sitting_of new;
        request = g.request;
        reply = g.came.reply;
        stood = seat-stands seats place old b.is b.there;
        asked = g.waiting;
        heard = (went-at place state after seats old new went b does g).party;
        stands = map-set sitting_of seats place new;
      }
      | inr over ↦ absurd (yes-no went sent (does.ended over))
    ]
hears-next place state after seats old new (Err e) b does = tt

-- ---- what a watch is shown

pub record Tell (result : Result Bool OutOfMemory) (state : Course) (old : Seat) (before after : List (SessionNo × Receipt) → Type 0) : Type 0 where
  pub shows : (r : Request) (came : Outcome) → old.proxy.phase ≡ waits r → outcome old.session state.current r old.conn.conn ≡ Some came
      → OnOk result ((earlier : List (SessionNo × Receipt)) → before earlier → after (earlier ++ (old.session, receipt_for (Some r) came.reply) ∷ []))
  pub silent : old.proxy.phase ≡ finished → (earlier : List (SessionNo × Receipt)) → before earlier → after earlier

going-shows : (place : ℕ) (state : Course) (seats : List Seat) (old : Seat) (went : Bool) (told then : List (SessionNo × Receipt) → Type 0) → Before place state seats old → Tell (Ok went) state old told then → Going (at_place place) state (sitting_of old)
    → (settings : Settings) (w : Workload) (u : Underway) (shown : List (SessionNo × Exchange)) → IsValid w → Follows settings w u (cored state seats false) → AreMade w u shown
    → GrowsTo told then shown (AreMade w (stepped (run_setting settings) u (at_place place)))
unfolding cored sitting_of shown_as
going-shows place state seats old went told then b tell g settings w u shown valid follows made = record {
  more = (at_place place, record { request = g.request; reply = g.came.reply }) ∷ [];
  holds = made-on settings w u (cored state seats false) place (sitting_of old) g.request g.came shown valid follows (stands-at place state seats old b) g.waiting g.comes made;
  tells = λ earlier tells.
      subst (λ (n : SessionNo). then (earlier ++ (n, receipt_for (Some g.request) g.came.reply) ∷ [])) (session-is place state seats old b)
      (tell.shows g.request g.came g.waiting (ap (λ (n : SessionNo). outcome n state.current g.request old.conn.conn) (session-is place state seats old b) ∙ g.comes) earlier tells);
}

pub nothing-shown : (told then : List (SessionNo × Receipt) → Type 0) (w : Workload) (u v : Underway) (shown : List (SessionNo × Exchange)) → v ≡ u → AreMade w u shown → ((earlier : List (SessionNo × Receipt)) → told earlier → then earlier) → GrowsTo told then shown (AreMade w v)
nothing-shown told then w u v shown same made silent = record {
  more = [];
  holds = subst (λ (x : Underway). AreMade w x (shown ++ [])) (sym same) (subst (λ (l : List (SessionNo × Exchange)). AreMade w u l) (sym (append-nil shown)) made);
  tells = λ earlier tells. subst then (sym (append-nil earlier)) (silent earlier tells);
}

pub shows-next : (place : ℕ) (state : Course) (seats : List Seat) (old : Seat) (result : Result Bool OutOfMemory) (told then : List (SessionNo × Receipt) → Type 0) → Before place state seats old → Tell result state old told then
    → (settings : Settings) (w : Workload) (u : Underway) (shown : List (SessionNo × Exchange)) → IsValid w → Follows settings w u (cored state seats false) → AreMade w u shown
    → OnOk result (GrowsTo told then shown (AreMade w (stepped (run_setting settings) u (at_place place))))
unfolding sitting_of
shows-next place state seats old (Ok went) told then b tell settings w u shown valid follows made =
    elim (cases-at place state seats old b) as (λ _. GrowsTo told then shown (AreMade w (stepped (run_setting settings) u (at_place place)))) [
      | inl g ↦ going-shows place state seats old went told then b tell g settings w u shown valid follows made
      | inr over ↦ nothing-shown told then w u (stepped (run_setting settings) u (at_place place)) shown (stays place state seats old b over settings w u valid follows) made (tell.silent over)
    ]
shows-next place state seats old (Err e) told then b tell settings w u shown valid follows made = tt
