use Rattle.std.proofs.Common.{◌≡◌, drop}
use Rattle.plain_db.specs.Running.{written_by}
use Rattle.plain_db.proofs.committing.stamp.Given as goal

abbrev pub invariant-ops : goal.invariant-ops
invariant-ops l = written_by (drop l.i l.ops) l.number l.written ≡ written_by l.ops l.number l.fn.written
