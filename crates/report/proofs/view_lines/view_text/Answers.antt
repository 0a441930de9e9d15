use Rattle.std.proofs.Common.{◌∙◌, []}
use Rattle.report.specs.ViewText.{view_text_of}
use Rattle.report.proofs.Appends.{thrice}
use Rattle.report.proofs.view_lines.view_text.Goals as goal

pub returns : goal.returns
unfolding view_text_of
returns c =
    c.from_vec.ensures
    ∙ thrice [] _ _ _ (rw c.new-text.ensures.items at c.in_ok-push_mode.ensures) (rw c.as_slice.ensures at c.in_ok-push_sessions.ensures) (rw c.as_slice-2.ensures at c.in_ok-push_turns.ensures)
