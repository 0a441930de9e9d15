use Rattle.std.proofs.lemmas.Result.{on_ok_weaker}
use Rattle.workload.specs.Report.{line}
use Rattle.report.proofs.Appends.{thrice}
use Rattle.report.proofs.answers.push_row.Goals as goal

pub returns : goal.returns
unfolding line
returns c = on_ok_weaker _ (thrice _ _ _ _ c.in_ok-push_bytes.ensures c.in_ok-push_after_spaces.ensures) c.push_bytes-2.ensures
