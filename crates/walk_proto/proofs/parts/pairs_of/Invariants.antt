use Rattle.std.proofs.Common.{◌≡◌, ◌+◌, ◌-◌, ◌*◌, ◌++◌, length}
use Rattle.std.specs.List.{flat_map}
use Rattle.walk_proto.specs.Spelling.{cond_bytes}
use Rattle.walk_proto.proofs.parts.pairs_of.Given as goal

abbrev pub invariant-pairs : goal.invariant-pairs
invariant-pairs l = record { spelled : l.fn.bytes ≡ flat_map cond_bytes l.pairs.items ++ l.rest; left : length l.rest + length l.pairs.items * 2 ≡ l.count * 2 }

abbrev pub decreases-pairs : goal.decreases-pairs
decreases-pairs l = l.count - length l.pairs.items
