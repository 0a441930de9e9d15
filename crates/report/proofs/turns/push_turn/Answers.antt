use Rattle.report.specs.ViewText.{turn_lines}
use Rattle.report.proofs.Appends.{twice}
use Rattle.report.proofs.turns.push_turn.Goals as goal

pub returns : goal.returns
unfolding turn_lines
returns c = twice _ _ _ c.in_ok-push_turn_line.ensures c.in_ok-push_changed.ensures
