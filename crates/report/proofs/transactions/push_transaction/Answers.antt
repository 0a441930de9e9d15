use Rattle.workload.specs.Report.{transaction_lines}
use Rattle.report.proofs.Appends.{twice}
use Rattle.report.proofs.transactions.push_transaction.Goals as goal

pub returns : goal.returns
unfolding transaction_lines
returns c = twice _ _ _ c.in_ok-push_transaction_line.ensures (rw c.as_slice.ensures at c.in_ok-push_answers.ensures)
