use Rattle.std.proofs.Common.{◌≡◌, ◌++◌, ◌*◌, ◌≤◌, length}
use Rattle.workload.specs.Report.{row_lines}
use Rattle.report.proofs.answers.push_row_lines.Given as goal

abbrev pub invariant-rows : goal.invariant-rows
invariant-rows l = record {
  text : l.text.items ++ row_lines l.more l.width l.left ≡ l.fn.text.items ++ row_lines l.count l.width l.values;
  fit : l.more * l.width ≤ length l.left;
}

abbrev pub decreases-rows : goal.decreases-rows
decreases-rows l = l.more
