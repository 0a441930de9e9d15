use Rattle.report.specs.ViewText.{sum_lines}
use Rattle.report.proofs.Appends.{thrice}
use Rattle.report.proofs.changes.push_summary.Goals as goal

pub returns : goal.returns
unfolding sum_lines
returns c =
    thrice _ _ _ _ (rw c.dropped.ensures.value at c.in_ok-push_codes.ensures) (rw c.moved.ensures.value at c.in_ok-push_recodes.ensures) (rw c.added.ensures.value at c.in_ok-push_codes-2.ensures)
