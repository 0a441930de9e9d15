use Rattle.std.proofs.lemmas.Result.{on_ok_weaker}
use Rattle.workload.specs.Report.{line, turns_line}
use Rattle.report.proofs.Appends.{thrice}
use Rattle.report.proofs.report_lines.push_turns.Goals as goal

pub returns : goal.returns
unfolding line turns_line
returns c = on_ok_weaker _ (thrice _ _ _ _ c.in_ok-push_bytes.ensures c.in_ok-push_joined.ensures) c.push_bytes-2.ensures
