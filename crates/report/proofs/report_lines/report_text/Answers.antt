use Rattle.std.proofs.Common.{◌∙◌, []}
use Rattle.report.specs.WholeText.{plain_text, text_of}
use Rattle.report.proofs.Appends.{thrice}
use Rattle.report.proofs.report_lines.report_text.Goals as goal

pub returns : goal.returns
unfolding plain_text text_of
returns c =
    c.from_vec.ensures
    ∙ thrice [] _ _ _ (rw c.new-text.ensures.items at c.in_ok-push_turns.ensures) c.in_ok-push_transactions.ensures c.in_ok-push_nonce.ensures
