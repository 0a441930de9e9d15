use Rattle.std.proofs.lemmas.Result.{on_ok_weaker}
use Rattle.workload.specs.Report.{line}
use Rattle.report.proofs.Appends.{twice}
use Rattle.report.proofs.appending.push_numbered_line.Goals as goal

pub returns : goal.returns
unfolding line
returns c = on_ok_weaker _ (twice _ _ _ c.in_ok-push_number.ensures) c.push_bytes.ensures
