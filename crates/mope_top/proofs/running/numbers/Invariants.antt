use Rattle.std.proofs.Common.{◌≡◌, take}
use Rattle.workload.specs.Run.{session_numbers}
use Rattle.mope_top.proofs.running.numbers.Given as goal

abbrev pub invariant-scripts : goal.invariant-scripts
invariant-scripts l = l.numbers.items ≡ session_numbers 1 (take l.i l.scripts)
