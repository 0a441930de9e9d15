use Rattle.std.proofs.Common.{◌≡◌, ◌++◌, drop}
use Rattle.code_changes.specs.Normal.{news}
use Rattle.summary.proofs.gathering.new_codes.Given as goal

abbrev pub invariant-pairs : goal.invariant-pairs
invariant-pairs l = l.codes.items ++ news (drop l.at l.moved) ≡ news l.moved
