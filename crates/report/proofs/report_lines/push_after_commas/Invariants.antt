use Rattle.std.proofs.Common.{◌≡◌, ◌++◌, drop}
use Rattle.std.specs.List.{flat_map}
use Rattle.report.proofs.Appends.{after_comma}
use Rattle.report.proofs.report_lines.push_after_commas.Given as goal

abbrev pub invariant-sessions : goal.invariant-sessions
invariant-sessions l = l.text.items ++ flat_map after_comma (drop l.session-index l.sessions) ≡ l.fn.text.items ++ flat_map after_comma l.sessions
