use Rattle.std.proofs.Common.{◌≡◌, drop}
use Rattle.versions.specs.Newer.{lowest_newer}
use Rattle.txn_core.specs.Outcomes.{conflict_on}
use Rattle.txn_core.proofs.newer.first_conflict.Given as goal

abbrev pub invariant-tables : goal.invariant-tables
invariant-tables l = conflict_on l.current l.base l.touched ≡ lowest_newer l.number (drop l.number l.current.stamps) l.base l.touched
