use Rattle.std.proofs.Common.{◌+◌, ◌≤◌, List, length}
use Rattle.workload_file.specs.FileLines.{lines_of}
use Rattle.workload_file.specs.TwinFile.{SaidLine, Say}
use Rattle.workload_file.proofs.twin.next_said.Given as goal

abbrev pub invariant-blank : goal.invariant-blank
invariant-blank l = record {
  counted : l.number + length l.rest ≤ l.initial.number + length l.bytes;
  shorter : length l.rest ≤ length l.bytes;
  same : (all : List SaidLine) → Say l.initial.number (lines_of l.bytes) all → Say l.number (lines_of l.rest) all;
}

abbrev pub decreases-blank : goal.decreases-blank
decreases-blank l = length l.rest
