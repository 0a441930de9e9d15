use Rattle.std.proofs.lemmas.Result.{on_ok_weaker}
use Rattle.workload.specs.Report.{numbered}
use Rattle.report.specs.ViewText.{what_text}
use Rattle.report.proofs.Appends.{twice}
use Rattle.report.proofs.turns.push_what.Goals as goal

pub returns-in-Began : goal.returns-in-Began
unfolding what_text numbered
returns-in-Began c = rw c.in-Began.is c.push_number.ensures

pub returns-in-Committed : goal.returns-in-Committed
unfolding what_text numbered
returns-in-Committed c = rw c.in-Committed.is c.push_number-in-Committed.ensures

pub returns-in_ok-push_table-in-Conflict : goal.returns-in_ok-push_table-in-Conflict
unfolding what_text numbered
returns-in_ok-push_table-in-Conflict c = rw c.in-Conflict.is (on_ok_weaker _ (twice _ _ _ c.in_ok-push_table-in-Conflict.ensures) c.push_number-in-Conflict.ensures)

pub returns-in-Installed : goal.returns-in-Installed
unfolding what_text numbered
returns-in-Installed c = rw c.in-Installed.is c.push_number-in-Installed.ensures

pub returns-in_ok-push_table-in-Stale : goal.returns-in_ok-push_table-in-Stale
unfolding what_text numbered
returns-in_ok-push_table-in-Stale c = rw c.in-Stale.is (on_ok_weaker _ (twice _ _ _ c.in_ok-push_table-in-Stale.ensures) c.push_number-in-Stale.ensures)
