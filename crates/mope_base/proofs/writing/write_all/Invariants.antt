use Rattle.std.proofs.Common.{length, ◌-◌}
use Rattle.mope_base.proofs.StreamLemmas.{WrittenSoFar}
use Rattle.mope_base.proofs.writing.write_all.Given as goal

abbrev pub invariant-pieces : goal.invariant-pieces
invariant-pieces g l = WrittenSoFar (g.K.Sink.written l.initial.out) (g.K.Sink.written l.out) (g.K.Sink.faults l.initial.out) (g.K.Sink.faults l.out) l.bytes l.done

abbrev pub decreases-pieces : goal.decreases-pieces
decreases-pieces g l = length l.bytes - l.done
