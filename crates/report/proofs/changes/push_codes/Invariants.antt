use Rattle.std.proofs.Common.{◌≡◌, ◌++◌, drop}
use Rattle.std.specs.List.{flat_map}
use Rattle.report.specs.ViewText.{code_line}
use Rattle.report.proofs.changes.push_codes.Given as goal

abbrev pub invariant-codes : goal.invariant-codes
invariant-codes l = l.text.items ++ flat_map (code_line l.before) (drop l.code-index l.codes) ≡ l.fn.text.items ++ flat_map (code_line l.before) l.codes
