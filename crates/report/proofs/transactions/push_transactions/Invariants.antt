use Rattle.std.proofs.Common.{◌≡◌, ◌++◌, drop}
use Rattle.std.specs.List.{flat_map}
use Rattle.workload.specs.Report.{transaction_lines}
use Rattle.report.proofs.transactions.push_transactions.Given as goal

abbrev pub invariant-transactions : goal.invariant-transactions
invariant-transactions l = l.text.items ++ flat_map (transaction_lines l.w) (drop l.t-index l.txns) ≡ l.fn.text.items ++ flat_map (transaction_lines l.w) l.txns
