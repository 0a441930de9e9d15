use Rattle.std.proofs.Common.{◌≡◌, ◌++◌, drop}
use Rattle.workload_file.specs.LineTexts.{names_text}
use Rattle.workload_file.proofs.shapes.put_names.Given as goal

abbrev pub invariant-names : goal.invariant-names
invariant-names l = l.text.items ++ names_text (drop l.name-index l.names) ≡ l.initial.text.items ++ names_text l.names
