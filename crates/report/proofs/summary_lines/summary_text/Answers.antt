use Rattle.std.proofs.Common.{◌∙◌, []}
use Rattle.workload.specs.Report.{line, numbered}
use Rattle.report.specs.SummaryText.{entry_line, summary_text_of}
use Rattle.report.proofs.Appends.{thrice}
use Rattle.report.proofs.summary_lines.summary_text.Goals as goal

pub returns : goal.returns
unfolding line numbered entry_line summary_text_of
returns c =
    c.from_vec.ensures
    ∙ thrice [] _ _ _ (rw c.new-text.ensures.items at c.in_ok-push_run.ensures) c.in_ok-push_ends.ensures c.in_ok-push_numbered_line.ensures
