use Rattle.std.proofs.Common.{◌≡◌, ◌+◌, ◌++◌, drop}
use Rattle.report.specs.ViewText.{numbered_from, turn_lines}
use Rattle.report.proofs.turns.push_turns.Given as goal

abbrev pub invariant-turns : goal.invariant-turns
invariant-turns l = l.text.items ++ numbered_from (turn_lines l.w) (l.index + 1) (drop l.index l.turns) ≡ l.fn.text.items ++ numbered_from (turn_lines l.w) 1 l.turns
