use Rattle.std.proofs.Common.{◌≡◌, ◌++◌, drop}
use Rattle.summary.specs.Candidates.{others}
use Rattle.summary.proofs.gathering.others.Given as goal

abbrev pub invariant-codes : goal.invariant-codes
invariant-codes l = l.rest.items ++ others l.excluded (drop l.at l.codes) ≡ others l.excluded l.codes
