use Rattle.std.proofs.Common.{take}
use Rattle.workload.specs.Run.{initial, take_turns}
use Rattle.plain_db.specs.Running.{ShowsRun}
use Rattle.plain_db.proofs.running.take_all.Given as goal

abbrev pub invariant-turns : goal.invariant-turns
invariant-turns l = ShowsRun l.w l.state (take_turns (initial l.w) (take l.i l.turns))
