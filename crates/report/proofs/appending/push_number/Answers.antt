use Rattle.std.proofs.lemmas.Result.{on_ok_weaker}
use Rattle.report.proofs.Appends.{twice}
use Rattle.report.proofs.appending.push_number.Goals as goal

pub returns : goal.returns
returns c = on_ok_weaker _ (twice _ _ _ c.in_ok-push_bytes.ensures) c.push_decimal.ensures
