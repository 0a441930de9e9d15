-- So many scripts were finished, and the others are those that are left.
use Rattle.std.proofs.Common.{◌≡◌, ◌++◌, map}
use Rattle.mope_base.specs.Lists.{Each}
use Rattle.step_core.specs.Inside.{sitting_of}
use Rattle.step_core.specs.Sittings.{HasFinished, finished_of}
use Rattle.step_core.proofs.stepping.finish_all.Given as goal

abbrev pub invariant-seats : goal.invariant-seats
invariant-seats l =
    Each HasFinished (map sitting_of l.seat-iterator.rest.items)
    × (l.finished.items ++ map finished_of (map sitting_of l.seat-iterator.rest.items) ≡ map finished_of (map sitting_of l.fn.seats.items))
