use Rattle.std.proofs.Common.{arith}
use Rattle.mope_base.proofs.StreamLemmas.{StopsFor-after}
use Rattle.mope_base.proofs.reading.read_all.Goals as goal

pub returns-in-Err-read_more-clause-stopped : goal.returns-in-Err-read_more-clause-stopped
returns-in-Err-read_more-clause-stopped g c =
    StopsFor-after _ (g.S.Source.left c.pieces.input) _ _ (g.S.Source.faults c.pieces.input) _ _ c.pieces.bytes.items c.in-Err-read_more.stop c.pieces.invariant.taken c.pieces.invariant.within (omega (arith, c.pieces.invariant.stayed)) c.in-Err-read_more.ensures.err
