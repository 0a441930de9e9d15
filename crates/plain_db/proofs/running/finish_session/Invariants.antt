use Rattle.std.proofs.Common.{drop, get_or, []}
use Rattle.workload.specs.Run.{Run, finished_session}
use Rattle.plain_db.specs.Running.{ShowsRun}
use Rattle.plain_db.specs.Reached.{IsReached}
use Rattle.plain_db.proofs.RunningLemmas.{IsFinishing}
use Rattle.plain_db.proofs.running.finish_session.Given as goal

-- the pieces from here on are left, in each run that the state stands for
abbrev pub invariant-pieces : goal.invariant-pieces
invariant-pieces l =
    (r : Run) → ShowsRun l.w l.fn.state r → IsReached l.w r
    → IsFinishing l.w l.state l.s (drop l.i (get_or l.w.sessions l.k [])) (finished_session r l.s)
