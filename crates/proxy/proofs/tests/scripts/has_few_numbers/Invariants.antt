use Rattle.std.specs.Prelude.{◌≡◌, ◌+◌, take}
use Rattle.std.specs.List.{sum_by}
use Rattle.workload.specs.Validity.{numbers_inserted}
use Rattle.proxy.proofs.tests.scripts.has_few_numbers.Given as goal

abbrev pub invariant-pieces : goal.invariant-pieces
invariant-pieces l = l.left + sum_by numbers_inserted (take l.i l.pieces) ≡ l.most
