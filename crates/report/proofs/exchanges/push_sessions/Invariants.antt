use Rattle.std.proofs.Common.{◌≡◌, ◌+◌, ◌++◌, drop}
use Rattle.report.specs.ViewText.{numbered_from, session_lines}
use Rattle.report.proofs.exchanges.push_sessions.Given as goal

abbrev pub invariant-sessions : goal.invariant-sessions
invariant-sessions l = l.text.items ++ numbered_from session_lines (l.index + 1) (drop l.index l.logs) ≡ l.fn.text.items ++ numbered_from session_lines 1 l.logs
