use Rattle.std.proofs.Common.{◌≡◌, ◌++◌, drop}
use Rattle.code_changes.specs.Normal.{olds}
use Rattle.summary.proofs.gathering.old_codes.Given as goal

abbrev pub invariant-pairs : goal.invariant-pairs
invariant-pairs l = l.codes.items ++ olds (drop l.at l.moved) ≡ olds l.moved
