use Rattle.std.proofs.Common.{sym, append-nil}
use Rattle.workload.specs.Report.{line, numbered}
use Rattle.report.specs.WholeText.{nonce_line}
use Rattle.report.proofs.report_lines.push_nonce.Goals as goal

pub returns-in-Some : goal.returns-in-Some
unfolding nonce_line line numbered
returns-in-Some c = rw c.in-Some.is c.push_numbered_line.ensures

pub returns-in-None : goal.returns-in-None
unfolding nonce_line
returns-in-None c = rw c.in-None.is (sym (append-nil c.args.text.now.items))
