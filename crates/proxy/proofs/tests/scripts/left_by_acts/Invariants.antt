use Rattle.std.specs.Prelude.{◌≡◌, ◌+◌, take}
use Rattle.std.specs.List.{sum_by}
use Rattle.workload.specs.Validity.{inserted_numbers}
use Rattle.proxy.proofs.tests.scripts.left_by_acts.Given as goal

abbrev pub invariant-acts : goal.invariant-acts
invariant-acts l = l.left + sum_by inserted_numbers (take l.i l.acts) ≡ l.most
