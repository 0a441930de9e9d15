use Rattle.workload.specs.Report.{line, numbered}
use Rattle.report.specs.ViewText.{session_lines}
use Rattle.report.proofs.Appends.{twice}
use Rattle.report.proofs.exchanges.push_session.Goals as goal

pub returns : goal.returns
unfolding line numbered session_lines
returns c = twice _ _ _ c.in_ok-push_numbered_line.ensures c.in_ok-push_exchanges.ensures
