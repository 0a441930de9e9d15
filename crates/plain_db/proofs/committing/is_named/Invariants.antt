use Rattle.std.proofs.Common.{◌≡◌, drop}
use Rattle.workload.specs.Run.{names}
use Rattle.plain_db.proofs.committing.is_named.Given as goal

abbrev pub invariant-tables : goal.invariant-tables
invariant-tables l = names (drop l.k l.tables) l.i ≡ names l.tables l.i
