use Rattle.workload.specs.Run.{Run, finished_sessions, session_numbers}
use Rattle.plain_db.specs.Running.{ShowsRun}
use Rattle.plain_db.specs.Reached.{IsReached}
use Rattle.plain_db.proofs.RunningLemmas.{AreFinishing}
use Rattle.plain_db.proofs.running.finish_all.Given as goal

abbrev pub invariant-sessions : goal.invariant-sessions
invariant-sessions l =
    (r : Run) → ShowsRun l.w l.fn.state r → IsReached l.w r
    → AreFinishing l.w l.state l.k (finished_sessions r (session_numbers 1 l.w.sessions))
