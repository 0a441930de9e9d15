use Rattle.std.proofs.Common.{◌≡◌, drop}
use Rattle.plain_db.specs.Running.{newer_in}
use Rattle.plain_db.proofs.committing.newer_than.Given as goal

abbrev pub invariant-stamps : goal.invariant-stamps
invariant-stamps l = newer_in l.i (drop l.i l.written) l.base l.touched ≡ newer_in 0 l.written l.base l.touched
