use Rattle.std.proofs.Common.{ℕ, ◌+◌, ◌≤◌, ◌^◌, Option, length}
use Rattle.workload_file.specs.FileLines.{lines_of}
use Rattle.workload_file.specs.LineTexts.{IsComparison}
use Rattle.workload_file.proofs.twin.first_difference.Given as goal

abbrev pub invariant-lines : goal.invariant-lines
invariant-lines l = record {
  first_counted : l.first_number + length l.first ≤ 2 ^ 32;
  counted : l.number + length l.second ≤ 2 ^ 32;
  same :
      (found : Option ℕ) → IsComparison l.first_number (lines_of l.first) l.number (lines_of l.second) found
      → IsComparison 1 (lines_of l.initial.first) l.initial.number (lines_of l.initial.second) found;
}

abbrev pub decreases-lines : goal.decreases-lines
decreases-lines l = length l.second
