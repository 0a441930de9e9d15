use Rattle.std.proofs.lemmas.Result.{on_ok_weaker}
use Rattle.report.specs.ViewText.{code_text}
use Rattle.report.proofs.Appends.{twice}
use Rattle.report.proofs.hexadecimal.push_code.Goals as goal

pub returns : goal.returns
unfolding code_text
returns c = on_ok_weaker _ (twice _ _ _ c.in_ok-push_bytes.ensures) (rw c.to_be_bytes.ensures at c.push_hexadecimal.ensures)
