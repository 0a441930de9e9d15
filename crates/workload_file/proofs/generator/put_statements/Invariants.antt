use Rattle.std.proofs.Common.{◌≡◌, ◌++◌, drop, map}
use Rattle.sql_text.specs.Canonical.{canonical}
use Rattle.workload_file.specs.GeneratedText.{text_of_lines}
use Rattle.workload_file.proofs.generator.put_statements.Given as goal

abbrev pub invariant-statements : goal.invariant-statements
invariant-statements l =
    l.text.items ++ text_of_lines (map canonical (drop l.statement-index l.statements)) ≡ l.initial.text.items ++ text_of_lines (map canonical l.initial.statements)
