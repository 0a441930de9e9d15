use Rattle.std.proofs.Common.{◌≡◌, ◌++◌, drop}
use Rattle.std.specs.List.{flat_map}
use Rattle.report.specs.ViewText.{map_line}
use Rattle.report.proofs.changes.push_recodes.Given as goal

abbrev pub invariant-moved : goal.invariant-moved
invariant-moved l = l.text.items ++ flat_map map_line (drop l.recode-index l.moved) ≡ l.fn.text.items ++ flat_map map_line l.moved
