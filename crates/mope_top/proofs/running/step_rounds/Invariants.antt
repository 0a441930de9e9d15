use Rattle.mope_top.proofs.LessWork.{core_work}
use Rattle.mope_top.proofs.RoundsOnLemmas.{AllHaveRounds}
use Rattle.mope_top.proofs.running.step_rounds.Given as goal

abbrev pub invariant-rounds : goal.invariant-rounds
invariant-rounds g l = AllHaveRounds (g.H.Watch.tells l.fn.watch) (g.H.Watch.tells l.watch) l.fn.core l.core l.sessions

abbrev pub decreases-rounds : goal.decreases-rounds
decreases-rounds g l = core_work l.core
