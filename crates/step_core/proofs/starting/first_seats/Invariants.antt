use Rattle.std.proofs.Common.{◌≡◌, length, map, take}
use Rattle.step_core.specs.Inside.{AreNumbered, sitting_of}
use Rattle.step_core.specs.Sittings.{first_sittings}
use Rattle.step_core.proofs.starting.first_seats.Given as goal

-- the seats of the scripts so far
abbrev pub invariant-sessions : goal.invariant-sessions
invariant-sessions l = (map sitting_of l.seats.items ≡ first_sittings l.settings 1 (take l.i l.scripts)) × AreNumbered 1 l.seats.items × (length l.seats.items ≡ l.i)
