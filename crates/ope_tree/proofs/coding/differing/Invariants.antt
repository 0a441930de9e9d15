use Rattle.std.proofs.Common.{◌≡◌, ◌++◌, drop}
use Rattle.code_changes.specs.Changes.{differing}
use Rattle.ope_tree.proofs.coding.differing.Given as goal

abbrev pub invariant-pairs : goal.invariant-pairs
invariant-pairs l = l.moved.items ++ differing (drop l.at l.before) (drop l.at l.after) ≡ differing l.before l.after
