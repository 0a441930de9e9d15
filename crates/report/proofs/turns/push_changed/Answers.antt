use Rattle.std.proofs.Common.{sym, append-nil}
use Rattle.report.specs.ViewText.{changed_by}
use Rattle.report.proofs.turns.push_changed.Goals as goal

pub returns-in-Committed : goal.returns-in-Committed
unfolding changed_by
returns-in-Committed c = rw c.in-Committed.is (rw c.as_slice.ensures at c.push_changes.ensures)

pub returns-in-Installed : goal.returns-in-Installed
unfolding changed_by
returns-in-Installed c = rw c.in-Installed.is (rw c.as_slice-in-Installed.ensures at c.push_changes-in-Installed.ensures)

pub returns-in-Began : goal.returns-in-Began
unfolding changed_by
returns-in-Began c = rw c.in-Began.is (sym (append-nil c.args.text.now.items))

pub returns-in-Conflict : goal.returns-in-Conflict
unfolding changed_by
returns-in-Conflict c = rw c.in-Conflict.is (sym (append-nil c.args.text.now.items))

pub returns-in-Stale : goal.returns-in-Stale
unfolding changed_by
returns-in-Stale c = rw c.in-Stale.is (sym (append-nil c.args.text.now.items))
