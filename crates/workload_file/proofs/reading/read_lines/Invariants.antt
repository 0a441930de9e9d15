use Rattle.std.proofs.Common.{◌+◌, ◌≤◌, ◌^◌, length}
use Rattle.workload_file.specs.Steps.{start}
use Rattle.workload_file.specs.WorkloadFile.{Verdict, Leads, lines_of}
use Rattle.workload_file.proofs.reading.read_lines.Given as goal

-- what the rest gives is what the file gives
abbrev pub invariant-lines : goal.invariant-lines
invariant-lines l = record {
  counted : l.number + length l.rest ≤ 2 ^ 32;
  same : (verdict : Verdict) → Leads l.number l.reader (lines_of l.rest) verdict → Leads l.initial.number start (lines_of l.bytes) verdict;
}

abbrev pub decreases-lines : goal.decreases-lines
decreases-lines l = length l.rest
