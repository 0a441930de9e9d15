use Rattle.ope_tree.proofs.WalkedPlaces.{IsSpot, taken_of}
use Rattle.ope_tree.proofs.places.place_along.Given as goal

abbrev pub invariant-steps : goal.invariant-steps
invariant-steps l = IsSpot l.nodes l.fn.root (taken_of l.path.len l.path.bits l.taken) l.spot.link l.spot.before
