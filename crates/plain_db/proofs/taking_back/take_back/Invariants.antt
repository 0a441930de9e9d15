use Rattle.std.proofs.Common.{◌≡◌, length}
use Rattle.plain_db.specs.TakingBack.{all_undone}
use Rattle.plain_db.proofs.taking_back.take_back.Given as goal

-- what is left to take back leads to the same database
abbrev pub invariant-undos : goal.invariant-undos
invariant-undos l = all_undone l.left.items l.db ≡ all_undone l.fn.undos.items l.fn.db

abbrev pub decreases-undos : goal.decreases-undos
decreases-undos l = length l.left.items
