use Rattle.std.proofs.Common.{◌≡◌, ◌++◌, drop}
use Rattle.std.specs.List.{flat_map}
use Rattle.report.specs.ViewText.{change_lines}
use Rattle.report.proofs.changes.push_changes.Given as goal

abbrev pub invariant-changes : goal.invariant-changes
invariant-changes l = l.text.items ++ flat_map (change_lines l.w) (drop l.change-index l.changes) ≡ l.fn.text.items ++ flat_map (change_lines l.w) l.changes
