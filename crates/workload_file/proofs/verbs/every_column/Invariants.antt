use Rattle.std.proofs.Common.{◌≡◌}
use Rattle.workload_file.specs.Resolving.{first_columns}
use Rattle.workload_file.proofs.verbs.every_column.Given as goal

abbrev pub invariant-columns : goal.invariant-columns
invariant-columns l = l.numbers.items ≡ first_columns l.i
