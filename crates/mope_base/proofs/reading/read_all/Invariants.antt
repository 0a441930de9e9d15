use Rattle.std.proofs.Common.{◌-◌, vec_len}
use Rattle.mope_base.proofs.StreamLemmas.{ReadSoFar}
use Rattle.mope_base.proofs.reading.read_all.Given as goal

abbrev pub invariant-pieces : goal.invariant-pieces
invariant-pieces g l = ReadSoFar (g.S.Source.left l.initial.input) (g.S.Source.left l.input) (g.S.Source.faults l.initial.input) (g.S.Source.faults l.input) l.most (vec_len l.chunk) l.bytes.items

abbrev pub decreases-pieces : goal.decreases-pieces
decreases-pieces g l = l.most - vec_len l.bytes
