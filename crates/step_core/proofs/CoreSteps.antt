-- A core as its calls see it, by its parts: what it follows, and that a number without a place is none of the sessions'.
use Rattle.std.proofs.Common.{◌≡◌, refl, sym, ◌∙◌, ap, subst, ℕ, suc, ◌+◌, ◌<◌, ◌≤◌, ◌↔◌, Bool, true, false, List, [], ◌∷◌, map, length, inl, inr, arith}
use Rattle.std.proofs.lemmas.Bool.{cases_lt}
use Rattle.std.proofs.lemmas.List.{length-map}
use Rattle.mope_base.specs.declared.numbers.SessionNo.{SessionNo}
use Rattle.walk_proto.specs.declared.messages.Exchange.{Exchange}
use Rattle.workload.specs.declared.script.Workload.{Workload}
use Rattle.workload.specs.Validity.{IsValid}
use Rattle.proxy.specs.declared.outcomes.Settings.{Settings}
use Rattle.server_conn.specs.declared.receipt.Receipt.{Receipt}
use Rattle.txn_core.specs.Courses.{Course}
use Rattle.run_laws.specs.Schedules.{Underway, stepped}
use Rattle.run_laws.specs.ScheduleLaws.{HasNothingLeft}
use Rattle.run_laws.specs.SeatLaws.{IsSession}
use Rattle.run_laws.proofs.ScheduleLemmas.{ended_stays}
use Rattle.step_core.specs.Cores.{Cored, Follows, run_setting, seat_in}
use Rattle.step_core.specs.Inside.{IsCore, IsFollowing, cored, sitting_of}
use Rattle.step_core.specs.Shown.{AreMade, GrowsTo}
use Rattle.step_core.specs.Sittings.{HasHeard, HeardBy}
use Rattle.step_core.specs.declared.seat.Seat.{Seat}
use Rattle.step_core.proofs.Ending.{none-left}
use Rattle.step_core.proofs.Places.{at_place}
use Rattle.step_core.proofs.Stepped.{nothing-shown}

-- the core that isn't spent is seen so
pub seen-as : (state : Course) (seats : List Seat) (gone : Bool) (now : Cored) → cored state seats gone ≡ now → gone ≡ false → cored state seats false ≡ now
seen-as state seats gone now view kept = ap (λ (b : Bool). cored state seats b) (sym kept) ∙ view

pub follows-seen : (state : Course) (seats : List Seat) (gone : Bool) (now : Cored) → cored state seats gone ≡ now → gone ≡ false → (settings : Settings) (w : Workload) (u : Underway) → Follows settings w u now → Follows settings w u (cored state seats false)
follows-seen state seats gone now view kept settings w u follows = subst (λ (c : Cored). Follows settings w u c) (sym (seen-as state seats gone now view kept)) follows

-- a place is that of a session of this number, or none
pub record IsPlace (n : SessionNo) (place : ℕ) : Type 0 where
  pub session : 1 ≤ n.0 → suc place ≡ n.0
  pub none : n.0 ≡ 0 → place ≡ 18446744073709551615

pub no-place : (settings : Settings) (w : Workload) (u : Underway) (c : Cored) (n : SessionNo) (place count : ℕ) → Follows settings w u c → length c.sittings ≡ count → IsPlace n place → count ≤ place → IsSession w n → ⊥
no-place settings w u c n place count follows is at past known =
    let many : length c.sittings ≡ length w.sessions = sym (length-map c.sittings seat_in) ∙ follows.upheld.many in
    let here : suc place ≡ n.0 = at.session known.from in
    let to : n.0 ≤ length w.sessions = known.to in
    omega (arith, many, is, here, past, to)

pub place-of : (n : SessionNo) (place count : ℕ) → count < 18446744073709551616 → IsPlace n place → place < count → at_place place ≡ n
place-of n place count small at within =
    let same : suc place ≡ n.0 = elim (cases_lt 0 n.0) as (λ _. suc place ≡ n.0) [
      | inl some ↦ at.session (omega (arith, some))
      | inr none ↦ (let zero : n.0 ≡ 0 = omega (arith, none) in let far : place ≡ 18446744073709551615 = at.none zero in absurd (omega (arith, far, within, small)))
    ] in
    ap (λ (k : ℕ). let m : SessionNo = record { 0 = k } in m) same

-- ---- a number without a place

pub none-left-of : (settings : Settings) (w : Workload) (u : Underway) (c : Cored) (n : SessionNo) (place count : ℕ) → Follows settings w u c → length c.sittings ≡ count → IsPlace n place → count ≤ place → HasNothingLeft u n
none-left-of settings w u c n place count follows is at past =
    none-left (run_setting settings) w u c.state.current (map seat_in c.sittings) n follows.upheld (no-place settings w u c n place count follows is at past)

pub none-stays : (settings : Settings) (w : Workload) (u : Underway) (c : Cored) (n : SessionNo) (place count : ℕ) → Follows settings w u c → length c.sittings ≡ count → IsPlace n place → count ≤ place → stepped (run_setting settings) u n ≡ u
none-stays settings w u c n place count follows is at past = ended_stays (run_setting settings) u n (none-left-of settings w u c n place count follows is at past)

-- how many sittings are seen
pub count-seen : (state : Course) (seats : List Seat) (gone : Bool) (now : Cored) (count : ℕ) → cored state seats gone ≡ now → count ≡ length seats → length now.sittings ≡ count
unfolding cored
count-seen state seats gone now count view is = ap (λ (c : Cored). length c.sittings) (sym view) ∙ length-map seats sitting_of ∙ sym is

-- ---- a session with a place

pub went-follows : (state after : Course) (seats next : List Seat) (gone : Bool) (now : Cored) (n m : SessionNo) → cored state seats gone ≡ now → gone ≡ false → m ≡ n
    → ((settings : Settings) (w : Workload) (u : Underway) → IsValid w → Follows settings w u (cored state seats false) → Follows settings w (stepped (run_setting settings) u m) (cored after next false))
    → (settings : Settings) (w : Workload) (u : Underway) → IsValid w → Follows settings w u now → Follows settings w (stepped (run_setting settings) u n) (cored after next gone)
went-follows state after seats next gone now n m view kept same goes settings w u valid follows =
    subst (λ (b : Bool). Follows settings w (stepped (run_setting settings) u n) (cored after next b)) (sym kept)
    (subst (λ (x : SessionNo). Follows settings w (stepped (run_setting settings) u x) (cored after next false)) same
    (goes settings w u valid (follows-seen state seats gone now view kept settings w u follows)))

pub went-heard : (state : Course) (seats : List Seat) (gone : Bool) (now : Cored) (next : List Seat) (n : SessionNo) (i : ℕ) → cored state seats gone ≡ now → at_place i ≡ n → HasHeard i (map sitting_of seats) (map sitting_of next) → HeardBy n now.sittings (map sitting_of next)
unfolding HeardBy cored
went-heard state seats gone now next n i view same heard =
    (i, ap (λ (m : SessionNo). m.0) (sym same), subst (λ (c : Cored). HasHeard i c.sittings (map sitting_of next)) view heard)

-- ---- how many sessions there are

pub kept-of : (state : Course) (seats : List Seat) (gone : Bool) (now : Cored) → cored state seats gone ≡ now → now.spent ≡ false → gone ≡ false
unfolding cored
kept-of state seats gone now view kept = ap (λ (c : Cored). c.spent) view ∙ kept

few-kept : (state : Course) (seats : List Seat) (gone : Bool) → gone ≡ false → IsCore state seats gone → IsCore state seats false
few-kept state seats gone kept core = subst (λ (b : Bool). IsCore state seats b) kept core

pub few-seats : (state : Course) (seats : List Seat) (gone : Bool) → gone ≡ false → IsCore state seats gone → length seats ≤ 64
unfolding IsCore cored
few-seats state seats gone kept core =
    let f : IsFollowing (cored state seats false) = (few-kept state seats gone kept core).1 in
    let sittings : length (map sitting_of seats) ≡ length f.workload.sessions = sym (length-map (map sitting_of seats) seat_in) ∙ f.follows.upheld.many in
    let many : length (map sitting_of seats) ≡ length seats = length-map seats sitting_of in
    let few : length f.workload.sessions ≤ 64 = f.valid.few_sessions in
    omega (arith, sittings, many, few)

pub following-of : (state : Course) (seats : List Seat) (gone : Bool) (now : Cored) → cored state seats gone ≡ now → gone ≡ false → IsCore state seats gone → IsFollowing now
unfolding IsCore
following-of state seats gone now view kept core = subst IsFollowing (seen-as state seats gone now view kept) (few-kept state seats gone kept core).1

pub sessions-seen : (settings : Settings) (w : Workload) (u : Underway) (now : Cored) (count : ℕ) → Follows settings w u now → length now.sittings ≡ count → length w.sessions ≡ count
sessions-seen settings w u now count follows is = sym follows.upheld.many ∙ length-map now.sittings seat_in ∙ is

-- the number of a session, from its place
pub number-of : (i : ℕ) → at_place i ≡ record { 0 = i + 1 }
number-of i = let same : suc i ≡ i + 1 = omega arith in ap (λ (k : ℕ). let m : SessionNo = record { 0 = k } in m) same
