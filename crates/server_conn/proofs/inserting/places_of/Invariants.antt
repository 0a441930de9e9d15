-- The places of the marks before the index.
use Rattle.std.proofs.Common.{◌≡◌, map, take}
use Rattle.server_conn.specs.declared.txn.Mark.{Mark}
use Rattle.server_conn.proofs.inserting.places_of.Given as goal

abbrev pub invariant-marks : goal.invariant-marks
invariant-marks l = l.places.items ≡ map (λ (m : Mark). m.place) (take l.mark-index l.marks)
