use Rattle.std.proofs.Common.{◌≡◌, drop}
use Rattle.versions.specs.Newer.{names}
use Rattle.txn_core.proofs.newer.is_named.Given as goal

abbrev pub invariant-touched : goal.invariant-touched
invariant-touched l = names l.touched l.table.0 ≡ names (drop l.named-index l.touched) l.table.0
