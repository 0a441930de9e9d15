use Rattle.std.proofs.Common.{◌≡◌, ◌++◌, drop, map}
use Rattle.workload_file.specs.Shapes.{cond_shape}
use Rattle.workload_file.proofs.shapes.conds_shape.Given as goal

abbrev pub invariant-conds : goal.invariant-conds
invariant-conds l = l.shapes ++ map cond_shape (drop l.cond-index l.conds) ≡ map cond_shape l.conds
