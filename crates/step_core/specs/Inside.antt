-- What a core keeps between its calls. The definition is our own.
use Rattle.std.specs.Prelude.{◌≡◌, ℕ, suc, Bool, true, false, List, [], ◌∷◌, map, Some}
use Rattle.proxy.specs.declared.outcomes.Settings.{Settings}
use Rattle.proxy.specs.Party.{said}
use Rattle.run_laws.specs.Schedules.{Underway}
use Rattle.step_core.specs.Cores.{Cored, Follows, Sitting}
use Rattle.step_core.specs.declared.seat.Seat.{Seat}
use Rattle.txn_core.specs.Courses.{Course}
use Rattle.workload.specs.declared.script.Workload.{Workload}
use Rattle.workload.specs.Validity.{IsValid}

unfoldable pub sitting_of : Seat → Sitting
sitting_of seat = record { party = seat.proxy; conn = seat.conn }

-- what a proxy said last is at hand
abbrev pub IsSaid : Seat → Type 0
IsSaid seat = said seat.proxy.phase ≡ Some seat.said

-- seats are numbered from a number on, and what their proxies said is at hand
unfoldable pub AreNumbered : ℕ → List Seat → Type 0
AreNumbered number [] = Unit {0}
AreNumbered number (seat ∷ seats) = (seat.session.0 ≡ number) × IsSaid seat × AreNumbered (suc number) seats

unfoldable pub cored : Course → List Seat → Bool → Cored
cored state seats gone = record { state = state; sittings = map sitting_of seats; spent = gone }

-- a run of a valid workload that is followed
pub record IsFollowing (c : Cored) : Type 0 where
  pub settings : Settings
  pub workload : Workload
  pub underway : Underway
  pub valid : IsValid workload
  pub follows : Follows settings workload underway c

-- a core that isn't spent follows a run
unfoldable pub IsCore : Course → List Seat → Bool → Type 0
IsCore state seats true = Unit {0}
IsCore state seats false = AreNumbered 1 seats × IsFollowing (cored state seats false)
