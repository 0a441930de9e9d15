use Rattle.workload.specs.Report.{transaction_lines}
use Rattle.report.proofs.Appends.{all_pieces, more_pieces}
use Rattle.report.proofs.transactions.push_transactions.Goals as goal

pub transactions-preserved : goal.transactions-preserved
transactions-preserved c =
    more_pieces (transaction_lines c.args.w.now) c.transactions.text.items c.push_transaction.new.text.items _ c.args.txns.now c.transactions.t-index c.t-item.result c.transactions-test.true c.t-item.is
    c.in_ok-push_transaction.ensures
    c.transactions.invariant

pub returns : goal.returns
returns c = all_pieces (transaction_lines c.args.w.now) c.transactions.text.items _ c.args.txns.now c.transactions.t-index c.transactions-test.false c.transactions.invariant
