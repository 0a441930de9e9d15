use Rattle.std.proofs.Common.{◌≡◌, replicate}
use Rattle.plain_db.specs.Running.{first_place}
use Rattle.plain_db.proofs.running.first_places.Given as goal

abbrev pub invariant-places : goal.invariant-places
invariant-places l = l.places.items ≡ replicate l._i first_place
