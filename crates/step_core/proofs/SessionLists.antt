-- A session of a core, found by its place.
use Rattle.std.proofs.Common.{◌≡◌, ap, subst, ℕ, zero, suc, ◌+◌, ◌<◌, List, [], ◌∷◌, ◌++◌, map, length, get_or, set, arith}
use Rattle.std.proofs.lemmas.List.{length-map}
use Rattle.mope_base.specs.declared.numbers.SessionNo.{SessionNo}
use Rattle.walk_proto.specs.declared.messages.Exchange.{Exchange}
use Rattle.workload.specs.declared.script.Workload.{Workload}
use Rattle.proxy.specs.declared.outcomes.Settings.{Settings}
use Rattle.run_laws.specs.WorldRuns.{session_at}
use Rattle.run_laws.specs.Schedules.{Underway, due_at}
use Rattle.run_laws.specs.Seats.{Seat, first_seat, seat_at}
use Rattle.run_laws.specs.SeatLaws.{IsSession}
use Rattle.step_core.specs.Cores.{Sitting, Cored, seat_in, HasMade, HaveMade, Follows}
use Rattle.step_core.specs.Sittings.{StandsAt}

-- the number of the session at a place
abbrev pub numbered : ℕ → SessionNo
numbered k = record { 0 = k }

-- ---- its place

pub stands-within : (i : ℕ) (x : Sitting) (l : List Sitting) → StandsAt i x l → i < length l
unfolding StandsAt
stands-within i x [] there = absurd there
stands-within zero x (y ∷ l) there = omega (arith)
stands-within (suc i) x (y ∷ l) there = omega (arith, stands-within i x l there)

stands-seat : (i : ℕ) (x : Sitting) (l : List Sitting) (other : Seat) → StandsAt i x l → get_or (map seat_in l) i other ≡ seat_in x
unfolding StandsAt
stands-seat i x [] other there = absurd there
stands-seat zero x (y ∷ l) other there = ap seat_in there
stands-seat (suc i) x (y ∷ l) other there = stands-seat i x l other there

pub seat-there : (i : ℕ) (x : Sitting) (l : List Sitting) → StandsAt i x l → seat_at (map seat_in l) (suc i) ≡ seat_in x
unfolding seat_at
seat-there i x l there = stands-seat i x l (first_seat []) there

pub session-there : (settings : Settings) (w : Workload) (u : Underway) (c : Cored) (i : ℕ) (x : Sitting) → Follows settings w u c → StandsAt i x c.sittings → IsSession w (numbered (suc i))
session-there settings w u c i x follows there = record {
  from = omega (arith);
  to = omega (arith, stands-within i x c.sittings there, length-map c.sittings seat_in, follows.upheld.many);
}

-- ---- what it has made

pub record MadeBy (settings : Settings) (u : Underway) (k : ℕ) (x : Sitting) : Type 0 where
  pub made : List Exchange
  pub log : (session_at u.run.sessions k).log ≡ made ++ due_at u.due k
  pub has : HasMade settings (numbered k) made x

made-first : (settings : Settings) (u : Underway) (number : ℕ) (x : Sitting) (l : List Sitting) → HaveMade settings u number (x ∷ l) → MadeBy settings u number x
unfolding HaveMade
made-first settings u number x l have = record { made = have.0.0; log = have.0.1; has = have.0.2 }

made-later : (settings : Settings) (u : Underway) (number : ℕ) (x : Sitting) (l : List Sitting) → HaveMade settings u number (x ∷ l) → HaveMade settings u (suc number) l
unfolding HaveMade
made-later settings u number x l have = have.1

have-made : (settings : Settings) (u : Underway) (number : ℕ) (x : Sitting) (l : List Sitting) → MadeBy settings u number x → HaveMade settings u (suc number) l → HaveMade settings u number (x ∷ l)
unfolding HaveMade
have-made settings u number x l by later = ((by.made, by.log, by.has), later)

made-there : (settings : Settings) (u : Underway) (number i k : ℕ) (x : Sitting) (l : List Sitting) → k ≡ number + i → HaveMade settings u number l → StandsAt i x l → MadeBy settings u k x
unfolding StandsAt
made-there settings u number i k x [] at have there = absurd there
made-there settings u number zero k x (y ∷ l) at have there =
    let same : number ≡ k = omega (arith, at) in
    subst (λ (m : ℕ). MadeBy settings u m x) same (subst (λ (z : Sitting). MadeBy settings u number z) there (made-first settings u number y l have))
made-there settings u number (suc i) k x (y ∷ l) at have there = made-there settings u (suc number) i k x l (omega (arith, at)) (made-later settings u number y l have) there

pub made-by : (settings : Settings) (w : Workload) (u : Underway) (c : Cored) (i : ℕ) (x : Sitting) → Follows settings w u c → StandsAt i x c.sittings → MadeBy settings u (suc i) x
made-by settings w u c i x follows there = made-there settings u 1 i (suc i) x c.sittings (omega (arith)) follows.made there

-- ---- one session anew

-- what the logs of two runs under way have to do with each other at a number: the exchanges that were made stay
unfoldable pub StaysMade : Underway → Underway → ℕ → Type 0
StaysMade u v m = (made : List Exchange) → (session_at u.run.sessions m).log ≡ made ++ due_at u.due m → (session_at v.run.sessions m).log ≡ made ++ due_at v.due m

made-still : (settings : Settings) (u v : Underway) (number : ℕ) (x : Sitting) → StaysMade u v number → MadeBy settings u number x → MadeBy settings v number x
unfolding StaysMade
made-still settings u v number x stays by = record { made = by.made; log = stays by.made by.log; has = by.has }

others-made : (settings : Settings) (u v : Underway) (number k : ℕ) (l : List Sitting) → k < number → ((m : ℕ) → (m ≡ k → ⊥) → StaysMade u v m) → HaveMade settings u number l → HaveMade settings v number l
unfolding HaveMade
others-made settings u v number k [] before stay have = tt
others-made settings u v number k (x ∷ l) before stay have =
    have-made settings v number x l (made-still settings u v number x (stay number (λ (e : number ≡ k). omega (arith, before, e))) (made-first settings u number x l have))
    (others-made settings u v (suc number) k l (omega (arith, before)) stay have.1)

made-anew : (settings : Settings) (u v : Underway) (number i k : ℕ) (y : Sitting) (l : List Sitting) → k ≡ number + i → i < length l → ((m : ℕ) → (m ≡ k → ⊥) → StaysMade u v m) → MadeBy settings v k y → HaveMade settings u number l → HaveMade settings v number (set l i y)
made-anew settings u v number i k y [] at within stay by have = absurd (omega (arith, within))
made-anew settings u v number zero k y (x ∷ l) at within stay by have =
    let same : k ≡ number = omega (arith, at) in
    have-made settings v number y l (subst (λ (m : ℕ). MadeBy settings v m y) same by) (others-made settings u v (suc number) k l (omega (arith, same)) stay (made-later settings u number x l have))
made-anew settings u v number (suc i) k y (x ∷ l) at within stay by have =
    have-made settings v number x (set l i y) (made-still settings u v number x (stay number (λ (e : number ≡ k). omega (arith, at, e))) (made-first settings u number x l have))
    (made-anew settings u v (suc number) i k y l (omega (arith, at)) (omega (arith, within)) stay by (made-later settings u number x l have))

-- a session at a place is another, and the others stay
pub one-made : (settings : Settings) (u v : Underway) (i : ℕ) (y : Sitting) (l : List Sitting) → i < length l → ((m : ℕ) → (m ≡ suc i → ⊥) → StaysMade u v m) → MadeBy settings v (suc i) y → HaveMade settings u 1 l → HaveMade settings v 1 (set l i y)
one-made settings u v i y l within stay by have = made-anew settings u v 1 i (suc i) y l (omega (arith)) within stay by have
