use Rattle.std.proofs.Common.{◌≡◌, ◌+◌, ◌-◌, ◌*◌, ◌++◌, length}
use Rattle.std.specs.List.{flat_map}
use Rattle.walk_proto.specs.Shapes.{BodiesFit}
use Rattle.walk_proto.specs.Spelling.{body_bytes}
use Rattle.walk_proto.proofs.parts.bodies_of.Given as goal

abbrev pub invariant-bodies : goal.invariant-bodies
invariant-bodies l = record { spelled : l.fn.bytes ≡ flat_map body_bytes l.bodies.items ++ l.rest; left : length l.rest + length l.bodies.items * 16 ≡ l.count * 16; fits : BodiesFit l.bodies.items }

abbrev pub decreases-bodies : goal.decreases-bodies
decreases-bodies l = l.count - length l.bodies.items
