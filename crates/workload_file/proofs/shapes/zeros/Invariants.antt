use Rattle.std.proofs.Common.{◌≡◌, ◌++◌, drop, map}
use Rattle.workload_file.specs.Shapes.{zero_of}
use Rattle.workload_file.proofs.shapes.zeros.Given as goal

abbrev pub invariant-values : goal.invariant-values
invariant-values l = l.zeros ++ map zero_of (drop l._value-index l.values) ≡ map zero_of l.values
