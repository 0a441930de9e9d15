use Rattle.workload.specs.Report.{line}
use Rattle.report.specs.ViewText.{message_line}
use Rattle.report.proofs.Appends.{thrice}
use Rattle.report.proofs.exchanges.push_message.Goals as goal

pub returns : goal.returns
unfolding line message_line
returns c = thrice _ _ _ _ c.in_ok-push_bytes.ensures c.in_ok-push_hexadecimal.ensures c.in_ok-push_bytes-2.ensures
