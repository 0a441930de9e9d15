use Rattle.std.proofs.Common.{◌≡◌, ◌+◌, ◌≤◌, false, length}
use Rattle.workload_file.specs.FileLines.{lines_of}
use Rattle.workload_file.specs.Steps.{stage_ended}
use Rattle.workload_file.proofs.TwinReading.{Reads}
use Rattle.workload_file.proofs.twin.read_first.Given as goal

abbrev pub invariant-lines : goal.invariant-lines
invariant-lines l = record {
  counted : l.number + length l.rest ≤ length l.bytes + 1;
  reads : Reads (lines_of l.bytes) l.number l.reader (lines_of l.rest);
  not_ended : stage_ended l.reader.stage ≡ false;
}

abbrev pub decreases-lines : goal.decreases-lines
decreases-lines l = length l.rest
