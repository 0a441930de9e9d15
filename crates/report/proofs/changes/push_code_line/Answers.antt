use Rattle.std.proofs.lemmas.Result.{on_ok_weaker}
use Rattle.workload.specs.Report.{line}
use Rattle.report.specs.ViewText.{code_line}
use Rattle.report.proofs.Appends.{twice}
use Rattle.report.proofs.changes.push_code_line.Goals as goal

pub returns : goal.returns
unfolding line code_line
returns c = on_ok_weaker _ (twice _ _ _ c.in_ok-push_code.ensures) c.push_bytes.ensures
