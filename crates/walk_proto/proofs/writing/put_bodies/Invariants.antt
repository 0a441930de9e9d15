use Rattle.std.proofs.Common.{◌≡◌, ◌++◌, take}
use Rattle.std.specs.List.{flat_map}
use Rattle.walk_proto.specs.Shapes.{BodiesFit}
use Rattle.walk_proto.specs.Spelling.{body_bytes}
use Rattle.walk_proto.proofs.writing.put_bodies.Given as goal

abbrev pub invariant-bodies : goal.invariant-bodies
invariant-bodies l = record { spelled : l.out.items ≡ l.initial.out.items ++ flat_map body_bytes (take l.body-index l.bodies); fits : BodiesFit (take l.body-index l.bodies) }
