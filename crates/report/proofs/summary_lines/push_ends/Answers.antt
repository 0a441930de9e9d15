use Rattle.std.proofs.Common.{◌∙◌, append_assoc}
use Rattle.report.specs.SummaryText.{end_lines}
use Rattle.report.proofs.Appends.{thrice, twice}
use Rattle.report.proofs.summary_lines.push_ends.Goals as goal

pub returns : goal.returns
unfolding end_lines
returns c =
    let committed = thrice _ _ _ _ c.in_ok-push_end_line.ensures c.in_ok-push_end_line-2.ensures c.in_ok-push_end_line-3.ensures in
    let full = thrice _ _ _ _ committed c.in_ok-push_end_line-4.ensures c.in_ok-push_end_line-5.ensures in
    thrice _ _ _ _ full c.in_ok-push_end_line-6.ensures c.in_ok-push_end_line-7.ensures
