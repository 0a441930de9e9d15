-- Sessions at their places in a core: which session stands there, and what it has made.
use Rattle.std.proofs.Common.{◌≡◌, refl, sym, ◌∙◌, ap, subst, ℕ, zero, suc, ◌+◌, ◌<◌, ◌≤◌, List, [], ◌∷◌, ◌++◌, map, length, get_or, set, arith}
use Rattle.std.proofs.lemmas.List.{length-map}
use Rattle.mope_base.specs.declared.numbers.SessionNo.{SessionNo}
use Rattle.walk_proto.specs.declared.messages.Exchange.{Exchange}
use Rattle.workload.specs.declared.script.Workload.{Workload}
use Rattle.proxy.specs.declared.outcomes.Settings.{Settings}
use Rattle.proxy.specs.Client.{Setting, wants}
use Rattle.proxy.specs.Party.{setting_of}
use Rattle.run_laws.specs.Schedules.{Underway, due_at}
use Rattle.run_laws.specs.WorldRuns.{session_at}
use Rattle.run_laws.specs.Seats.{Seat, first_seat, seat_at}
use Rattle.run_laws.specs.SeatLaws.{IsSession}
use Rattle.run_laws.specs.Worlds.{session_setting}
use Rattle.step_core.specs.Cores.{Cored, Follows, HasMade, HaveMade, Sitting, run_setting, seat_in}
use Rattle.step_core.specs.Inside.{AreNumbered, IsSaid, sitting_of}
use Rattle.step_core.specs.Sittings.{StandsAt}
use Rattle.step_core.specs.declared.seat.Seat.{Seat as Held}

abbrev pub at_place : ℕ → SessionNo
at_place i = record { 0 = suc i }

-- a sitting that stands somewhere is one of so many
pub stands-within : (sittings : List Sitting) (i : ℕ) (x : Sitting) → StandsAt i x sittings → i < length sittings
unfolding StandsAt
stands-within [] i x stands = absurd stands
stands-within (y ∷ sittings) zero x stands = omega arith
stands-within (y ∷ sittings) (suc i) x stands = let less : i < length sittings = stands-within sittings i x stands in omega (arith, less)

pub stands-seat : (sittings : List Sitting) (i : ℕ) (x : Sitting) → StandsAt i x sittings → seat_at (map seat_in sittings) (suc i) ≡ seat_in x
unfolding StandsAt seat_at
stands-seat [] i x stands = absurd stands
stands-seat (y ∷ sittings) zero x stands = ap seat_in stands
stands-seat (y ∷ sittings) (suc i) x stands = stands-seat sittings i x stands

-- what stands there after a change of what stood there
pub stands-set : (sittings : List Sitting) (i : ℕ) (x y : Sitting) → StandsAt i x sittings → StandsAt i y (set sittings i y)
unfolding StandsAt
stands-set [] i x y stands = absurd stands
stands-set (z ∷ sittings) zero x y stands = refl
stands-set (z ∷ sittings) (suc i) x y stands = stands-set sittings i x y stands

pub stands-same : (sittings : List Sitting) (i : ℕ) (x y : Sitting) → StandsAt i x sittings → StandsAt i y sittings → x ≡ y
unfolding StandsAt
stands-same [] i x y one other = absurd one
stands-same (z ∷ sittings) zero x y one other = sym one ∙ other
stands-same (z ∷ sittings) (suc i) x y one other = stands-same sittings i x y one other

-- ---- what it has made

pub record Made (settings : Settings) (u : Underway) (n : SessionNo) (x : Sitting) : Type 0 where
  pub exchanges : List Exchange
  pub whole : (session_at u.run.sessions n.0).log ≡ exchanges ++ due_at u.due n.0
  pub has : HasMade settings n exchanges x

pub made-from : (settings : Settings) (u : Underway) (k : ℕ) (sittings : List Sitting) (i n : ℕ) (x : Sitting) → HaveMade settings u k sittings → StandsAt i x sittings → i + k ≡ n → Made settings u (record { 0 = n }) x
unfolding HaveMade StandsAt
made-from settings u k [] i n x made stands count = absurd stands
made-from settings u k (y ∷ sittings) zero n x made stands count =
    let same : k ≡ n = omega (arith, count) in
    let here : Made settings u (record { 0 = k }) x = record { exchanges = made.0.0; whole = made.0.1; has = subst (HasMade settings (record { 0 = k }) made.0.0) stands made.0.2 } in
    subst (λ (m : ℕ). Made settings u (record { 0 = m }) x) same here
made-from settings u k (y ∷ sittings) (suc i) n x made stands count =
    let next : i + suc k ≡ n = omega (arith, count) in made-from settings u (suc k) sittings i n x made.1 stands next

pub made-at : (settings : Settings) (w : Workload) (u : Underway) (c : Cored) (i : ℕ) (x : Sitting) → Follows settings w u c → StandsAt i x c.sittings → Made settings u (at_place i) x
made-at settings w u c i x follows stands = let count : i + 1 ≡ suc i = omega arith in made-from settings u 1 c.sittings i (suc i) x follows.made stands count

-- ---- it is a session of the workload

pub known-at : (settings : Settings) (w : Workload) (u : Underway) (c : Cored) (i : ℕ) (x : Sitting) → Follows settings w u c → StandsAt i x c.sittings → IsSession w (at_place i)
known-at settings w u c i x follows stands =
    let less : i < length c.sittings = stands-within c.sittings i x stands in
    let many : length c.sittings ≡ length w.sessions = sym (length-map c.sittings seat_in) ∙ follows.upheld.many in
    record { from = omega arith; to = omega (arith, less, many) }

-- what its client wants in the run is what it wants
pub wants-at : (settings : Settings) (w : Workload) (u : Underway) (c : Cored) (i : ℕ) (x : Sitting) → Follows settings w u c → StandsAt i x c.sittings
    → wants (session_setting (run_setting settings) (at_place i)) (seat_at (map seat_in c.sittings) (suc i)).client ≡ wants x.party.setting x.party.client
unfolding run_setting session_setting seat_in setting_of
wants-at settings w u c i x follows stands =
    let made : Made settings u (at_place i) x = made-at settings w u c i x follows stands in
    ap (λ (seat : Seat). wants (session_setting (run_setting settings) (at_place i)) seat.client) (stands-seat c.sittings i x stands)
    ∙ sym (ap (λ (s : Setting). wants s x.party.client) made.has.setting)

-- ---- seats at their places

pub seat-stands : (seats : List Held) (i : ℕ) (x : Held) → get_or seats i x ≡ x → i < length seats → StandsAt i (sitting_of x) (map sitting_of seats)
unfolding StandsAt
seat-stands [] i x is less = absurd (omega (arith, less))
seat-stands (y ∷ seats) zero x is less = ap sitting_of is
seat-stands (y ∷ seats) (suc i) x is less = let rest : i < length seats = omega (arith, less) in seat-stands seats i x is rest

pub record Numbered (n : ℕ) (x : Held) : Type 0 where
  pub session : x.session.0 ≡ n
  pub said : IsSaid x

pub numbered-from : (k : ℕ) (seats : List Held) (i n : ℕ) (x : Held) → AreNumbered k seats → get_or seats i x ≡ x → i < length seats → i + k ≡ n → Numbered n x
unfolding AreNumbered
numbered-from k [] i n x numbered is less count = absurd (omega (arith, less))
numbered-from k (y ∷ seats) zero n x numbered is less count =
    let same : k ≡ n = omega (arith, count) in
    record { session = ap (λ (s : Held). s.session.0) (sym is) ∙ numbered.0 ∙ same; said = subst IsSaid is numbered.1 }
numbered-from k (y ∷ seats) (suc i) n x numbered is less count =
    let rest : i < length seats = omega (arith, less) in
    let next : i + suc k ≡ n = omega (arith, count) in
    numbered-from (suc k) seats i n x numbered.2 is rest next

pub numbered-at : (seats : List Held) (i : ℕ) (x : Held) → AreNumbered 1 seats → get_or seats i x ≡ x → i < length seats → Numbered (suc i) x
numbered-at seats i x numbered is less = let count : i + 1 ≡ suc i = omega arith in numbered-from 1 seats i (suc i) x numbered is less count

pub numbered-set : (k : ℕ) (seats : List Held) (i : ℕ) (x y : Held) → AreNumbered k seats → get_or seats i x ≡ x → y.session ≡ x.session → IsSaid y → AreNumbered k (set seats i y)
unfolding AreNumbered
numbered-set k [] i x y numbered is session said = tt
numbered-set k (z ∷ seats) zero x y numbered is session said =
    (ap (λ (s : SessionNo). s.0) session ∙ ap (λ (s : Held). s.session.0) (sym is) ∙ numbered.0, said, numbered.2)
numbered-set k (z ∷ seats) (suc i) x y numbered is session said = (numbered.0, numbered.1, numbered-set (suc k) seats i x y numbered.2 is session said)
