use Rattle.workload.specs.Report.{line, numbered}
use Rattle.report.specs.SummaryText.{entry_line, run_lines}
use Rattle.report.proofs.Appends.{thrice, twice}
use Rattle.report.proofs.summary_lines.push_run.Goals as goal

pub returns : goal.returns
unfolding line numbered entry_line run_lines
returns c = twice _ _ _ (thrice _ _ _ _ c.in_ok-push_numbered_line.ensures c.in_ok-push_numbered_line-2.ensures c.in_ok-push_numbered_line-3.ensures) c.in_ok-push_numbered_line-4.ensures
