use Rattle.workload.specs.Report.{answer_lines, line, numbered}
use Rattle.report.proofs.Appends.{twice}
use Rattle.report.proofs.answers.push_rows.Goals as goal

pub returns : goal.returns
unfolding answer_lines line numbered
returns c = rw c.rows_of-count.ensures.is at (twice c.args.text.now.items _ _ c.in_ok-push_numbered_line.ensures c.in_ok-push_row_lines.ensures)
