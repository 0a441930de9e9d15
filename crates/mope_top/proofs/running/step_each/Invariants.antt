use Rattle.std.proofs.Common.{take}
use Rattle.mope_top.proofs.Rounds.{StepsEach}
use Rattle.mope_top.proofs.running.step_each.Given as goal

abbrev pub invariant-sessions : goal.invariant-sessions
invariant-sessions g l = StepsEach (g.H.Watch.tells l.fn.watch) (g.H.Watch.tells l.watch) l.fn.core l.core (take l.session-index l.sessions) l.went
