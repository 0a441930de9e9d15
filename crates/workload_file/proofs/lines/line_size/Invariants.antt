use Rattle.std.proofs.Common.{◌≡◌, ℕ, ◌<◌, get_or, true}
use Rattle.workload_file.specs.FileLines.{is_inside}
use Rattle.workload_file.proofs.lines.line_size.Given as goal

abbrev pub invariant-loop-i : goal.invariant-loop-i
invariant-loop-i l = (k : ℕ) → k < l.i → is_inside (get_or l.bytes k 0) ≡ true
