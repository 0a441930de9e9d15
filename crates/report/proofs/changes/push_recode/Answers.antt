use Rattle.workload.specs.Report.{line}
use Rattle.report.specs.ViewText.{map_line}
use Rattle.report.proofs.Appends.{thrice}
use Rattle.report.proofs.changes.push_recode.Goals as goal

pub returns : goal.returns
unfolding line map_line
returns c = thrice _ _ _ _ c.in_ok-push_code.ensures c.in_ok-push_code-2.ensures c.in_ok-push_bytes.ensures
