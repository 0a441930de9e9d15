use Rattle.std.proofs.lemmas.Result.{on_ok_weaker}
use Rattle.workload.specs.Report.{end_text, numbered}
use Rattle.report.proofs.Appends.{twice}
use Rattle.report.proofs.transactions.push_end.Goals as goal

pub returns-in-Read : goal.returns-in-Read
unfolding end_text
returns-in-Read c = rw c.in-Read.is c.push_bytes.ensures

pub returns-in-Committed : goal.returns-in-Committed
unfolding end_text numbered
returns-in-Committed c = rw c.in-Committed.is c.push_number.ensures

pub returns-in-RolledBack : goal.returns-in-RolledBack
unfolding end_text
returns-in-RolledBack c = rw c.in-RolledBack.is c.push_bytes-in-RolledBack.ensures

pub returns-in-Full : goal.returns-in-Full
unfolding end_text
returns-in-Full c = rw c.in-Full.is c.push_table.ensures

pub returns-in_ok-push_table-in-Conflict : goal.returns-in_ok-push_table-in-Conflict
unfolding end_text numbered
returns-in_ok-push_table-in-Conflict c = rw c.in-Conflict.is (on_ok_weaker _ (twice _ _ _ c.in_ok-push_table-in-Conflict.ensures) c.push_number-in-Conflict.ensures)

pub returns-in-Installed : goal.returns-in-Installed
unfolding end_text numbered
returns-in-Installed c = rw c.in-Installed.is c.push_number-in-Installed.ensures

pub returns-in_ok-push_table-in-Stale : goal.returns-in_ok-push_table-in-Stale
unfolding end_text numbered
returns-in_ok-push_table-in-Stale c = rw c.in-Stale.is (on_ok_weaker _ (twice _ _ _ c.in_ok-push_table-in-Stale.ensures) c.push_number-in-Stale.ensures)
