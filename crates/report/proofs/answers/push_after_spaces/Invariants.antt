use Rattle.std.proofs.Common.{◌≡◌, ◌++◌, drop}
use Rattle.workload.specs.Report.{after_spaces}
use Rattle.report.proofs.answers.push_after_spaces.Given as goal

abbrev pub invariant-values : goal.invariant-values
invariant-values l = l.text.items ++ after_spaces (drop l.value-index l.values) ≡ l.fn.text.items ++ after_spaces l.values
