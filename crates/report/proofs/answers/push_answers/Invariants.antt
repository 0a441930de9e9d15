use Rattle.std.proofs.Common.{◌≡◌, ◌++◌, drop}
use Rattle.std.specs.List.{flat_map}
use Rattle.workload.specs.Report.{answer_lines}
use Rattle.report.proofs.answers.push_answers.Given as goal

abbrev pub invariant-answers : goal.invariant-answers
invariant-answers l = l.text.items ++ flat_map answer_lines (drop l.given-index l.answers) ≡ l.fn.text.items ++ flat_map answer_lines l.answers
