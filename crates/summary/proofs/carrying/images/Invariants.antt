use Rattle.std.proofs.Common.{◌≡◌, ◌++◌, drop}
use Rattle.code_changes.specs.Changes.{images}
use Rattle.summary.proofs.carrying.images.Given as goal

abbrev pub invariant-codes : goal.invariant-codes
invariant-codes l = l.after.items ++ images l.change (drop l.at l.codes) ≡ images l.change l.codes
